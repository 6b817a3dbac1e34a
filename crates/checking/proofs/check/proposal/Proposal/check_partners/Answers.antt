use Rattle.std.proofs.Common.{rules}
use Rattle.reading.proofs.FirstLaws.{none_more}
use Rattle.checking.proofs.CheckLaws.{stops_below}
use Rattle.checking.proofs.check.proposal.Proposal.check_partners.Goals as goal

pub returns-in_err-check_partner : goal.returns-in_err-check_partner
returns-in_err-check_partner g c =
    let h = stops_below _ _ _ _ _ _ c.from_residual.ensures.1 c.partner-partner-end.ensures c.loop-partner-test.true c.loop-partner.invariant c.in_err-check_partner.ensures in
    search rules

pub loop-partner-preserved : goal.loop-partner-preserved
loop-partner-preserved g c = search (rules, none_more)
