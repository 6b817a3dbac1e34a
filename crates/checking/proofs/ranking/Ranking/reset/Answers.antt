use Rattle.std.proofs.Common.{◌<◌, ◌≤◌, ltb, set, sym, refl, ap, arith}
use Rattle.std.proofs.lemmas.Bool.{false≢true}
use Rattle.checking.specs.Snapshots.{played}
use Rattle.checking.proofs.PlayLaws.{bounded}
use Rattle.checking.proofs.PlaceLaws.{written, zeros_few}
use Rattle.checking.proofs.SnapshotLaws.{gather_put}
use Rattle.checking.proofs.PassLaws.{resetting_keep, resetting_clear, kept_clear, resetting_turn, resetting_layers, resetting_tracks}
use Rattle.checking.proofs.ranking.Ranking.reset.Goals as goal
use Rattle.checking.proofs.ranking.Ranking.reset.Goals.{then-is_target, else-is_target}

pub loop-state-preserved : goal.loop-state-preserved
loop-state-preserved c =
    let y = c.args.seat.now in
    let b = bounded y in
    let i = c.loop-state.invariant in
    let hs : c.loop-state.state < (played y).states = omega (arith, c.states-state-end.ensures, c.loop-state-test.true) in
    let hp : c.loop-phase.phase < (played y).phases = omega (arith, c.phases-phase-end.ensures, c.loop-phase-test.true) in
    elim c.if-is_target.branch [
      | then-is_target w ↦ (let t = w.if-is_target.ensures.0 refl in rw (w.self-is, w.set-is) (
        resetting_keep _ _ _ _ hs hp i.0 t,
        gather_put _ _ c.loop-state.state i.1 _ w.insert.ensures (ap (λ n. ltb n 1) (sym t.zero)),
        i.2,
      ))
      | else-is_target w ↦ (let e = w.give.ensures in
          let v = written (played y) b _ _ hs hp c.loop-state.self w.give.new.self _ e.entries in
          rw (w.self-is, w.set-is) (
            resetting_clear _ _ _ _ hs hp i.0 _ v e.sets (λ t. false≢true (w.if-is_target.ensures.1 t)),
            kept_clear _ _ _ _ hs hp i.0 _ v e.sets (λ t. false≢true (w.if-is_target.ensures.1 t)) _ i.1,
            omega (arith, zeros_few (played y) b _ _ hs hp c.loop-state.self w.give.new.self _ e.entries (omega arith), i.2),
          ))
    ]

pub loop-phase-preserved : goal.loop-phase-preserved
loop-phase-preserved c =
    let y = c.args.seat.now in
    let i = c.loop-state.invariant in (
      resetting_turn (played y) (bounded y) c.loop-state.self _ c.loop-phase.phase c.loop-state.state _ (omega (arith, c.states-state-end.ensures, c.loop-state-test.false)) (omega (arith, c.phases-phase-end.ensures, c.loop-phase-test.true)) i.0 i.1 refl (ap (λ j. set c.loop-state.self.ranked j c.loop-state.set) c.from.ensures),
      i.2,
    )

pub returns-clause-after : goal.returns-clause-after
returns-clause-after c =
    let end : (played c.args.seat.now).phases ≤ c.loop-phase.phase = omega (arith, c.phases-phase-end.ensures, c.loop-phase-test.false) in
    record { layers = resetting_layers _ _ c.loop-phase.phase end c.loop-phase.invariant.0; tracks = resetting_tracks _ _ c.loop-phase.phase end c.loop-phase.invariant.0 }
