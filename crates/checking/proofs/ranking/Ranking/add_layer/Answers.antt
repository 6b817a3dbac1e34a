use Rattle.std.proofs.Common.{◌∙◌, sym, arith}
use Rattle.std.specs.Cmp.Lexicographic.{pointwise_decides}
use Rattle.std.proofs.lemmas.Bool.{not-false}
use Rattle.checking.proofs.StateSetLaws.{same_sets}
use Rattle.checking.specs.Snapshots.{played}
use Rattle.checking.proofs.PlayLaws.{bounded}
use Rattle.checking.proofs.PassLaws.{layering_done, layering_quiet}
use Rattle.checking.proofs.NearLaws.{quiet}
use Rattle.checking.proofs.ranking.Ranking.add_layer.Goals as goal

pub add_near-requires-clause-quiet : goal.add_near-requires-clause-quiet
add_near-requires-clause-quiet c =
    let y = c.args.seat.now in
    let r = c.requires in
    rw c.loop-phase.invariant.1 (quiet (played y) (bounded y) c.args.self.now c.args.earlier.now c.entered-sources.result c.args.depth c.loop-phase.phase c.near-near.result r.some r.few r.before r.earlier c.entered-sources.ensures c.near-near.ensures)

pub returns-clause-after : goal.returns-clause-after
returns-clause-after c = record {
  layers = layering_done (played c.args.seat.now) c.loop-phase.self _ _ c.loop-phase.phase (omega (arith, c.phases-phase-end.ensures, c.loop-phase-test.false)) c.loop-phase.invariant.0;
  tracks = c.loop-phase.invariant.0.coming;
}

pub returns-clause-earlier : goal.returns-clause-earlier
returns-clause-earlier c = rw (sym c.loop-phase.invariant.1) c.loop-phase.invariant.0.present

pub returns-clause-stops : goal.returns-clause-stops
returns-clause-stops c = λ e. layering_quiet (played c.args.seat.now) c.loop-phase.self _ _ c.loop-phase.phase (omega (arith, c.phases-phase-end.ensures, c.loop-phase-test.false)) c.loop-phase.invariant.0
    ((pointwise_decides same_sets c.loop-phase.next c.loop-phase.self.ranked).0 (not-false _ (sym c.ne-grown.ensures ∙ e)))
