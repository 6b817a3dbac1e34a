use Rattle.std.proofs.Common.{◌<◌, sym, ◌∙◌, arith}
use Rattle.checking.specs.Snapshots.{played}
use Rattle.checking.proofs.PlayLaws.{bounded}
use Rattle.checking.proofs.PlaceLaws.{rank_read}
use Rattle.checking.proofs.PassLaws.{pruning_start, pruning_skip, pruning_turn, pruning_renew, pruning_stable}
use Rattle.checking.proofs.ranking.Ranking.prune.Goals as goal
use Rattle.checking.proofs.ranking.Ranking.prune.Goals.{then-entry-eq0, else-entry-eq0}

pub loop-phase-init : goal.loop-phase-init
loop-phase-init c = pruning_start _ _ c.requires.layers

pub loop-state-preserved : goal.loop-state-preserved
loop-state-preserved c =
    let y = c.args.seat.now in
    let b = bounded y in
    let i = c.loop-state.invariant in
    let old = c.args.self.now in
    let hs : c.loop-state.state < (played y).states = omega (arith, c.states-state-end.ensures, c.loop-state-test.true) in
    let hp : c.loop-phase.phase < (played y).phases = omega (arith, c.phases-phase-end.ensures, c.loop-phase-test.true) in
    let at = rank_read (played y) b _ _ hs hp c.loop-state.self _ c.entry.ensures in
    elim c.if-entry-eq0.branch [
      | then-entry-eq0 w ↦ rw (w.self-is, w.pruned-is) (pruning_renew (played y) b old c.loop-state.self _ _ _ c.requires i w.renew-pruned.new.self (at ∙ w.if-entry-eq0.true) w.renew-pruned.result w.renew-pruned.ensures)
      | else-entry-eq0 w ↦ rw (w.self-is, w.pruned-is) (pruning_skip (played y) b old c.loop-state.self _ _ _ c.requires i (λ z. w.if-entry-eq0.false (sym at ∙ z)))
    ]

pub loop-phase-preserved : goal.loop-phase-preserved
loop-phase-preserved c = pruning_turn _ (bounded c.args.seat.now) _ _ _ c.loop-state.state _ c.requires c.loop-state.invariant (omega (arith, c.states-state-end.ensures, c.loop-state-test.false))

pub returns-clause-stable : goal.returns-clause-stable
returns-clause-stable c = pruning_stable _ _ _ c.loop-phase.phase _ c.requires.layers (omega (arith, c.phases-phase-end.ensures, c.loop-phase-test.false)) c.loop-phase.invariant
