use Rattle.std.proofs.Common.{sym, rules, arith}
use Rattle.reading.proofs.FirstLaws.{none_more, none_end}
use Rattle.checking.proofs.CheckLaws.{first_at, stops_below}
use Rattle.checking.proofs.check.proposal.Proposal.check_positions.Goals as goal

pub returns-in_err-check_position : goal.returns-in_err-check_position
returns-in_err-check_position g c =
    let i = first_at _ c.loop-phase.phase _ _ _ c.phases-phase-end.ensures c.loop-phase-test.true c.loop-phase.invariant.1 c.in_err-check_position.ensures in
    let h = stops_below _ c.loop-state.state _ _ _ _ c.from_residual.ensures.1 c.states-state-end.ensures c.loop-state-test.true c.loop-phase.invariant.0 i in
    search rules

pub loop-phase-preserved : goal.loop-phase-preserved
loop-phase-preserved g c = search (rules, none_more)

pub loop-state-preserved : goal.loop-state-preserved
loop-state-preserved g c =
    let n = c.args.self.now.seat.table.now.sizes.phases in
    none_more c.loop-state.state _ c.loop-phase.invariant.0 (sym (none_end c.loop-phase.phase n _ (omega (arith, c.phases-phase-end.ensures, c.loop-phase-test.false)) c.loop-phase.invariant.1))
