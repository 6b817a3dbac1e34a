use Rattle.std.proofs.Common.{rules}
use Rattle.checking.proofs.CheckLaws.{stops_below}
use Rattle.checking.proofs.check.proposal.Proposal.check_nexts.Goals as goal

pub returns-in_err-check_next : goal.returns-in_err-check_next
returns-in_err-check_next g c =
    let h = stops_below _ _ _ _ _ _ c.from_residual.ensures.1 c.states-next-end.ensures c.loop-next-test.true c.loop-next.invariant c.in_err-check_next.ensures in
    search rules
