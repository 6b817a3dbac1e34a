use Rattle.std.proofs.Common.{rules, refl, sym}
use borrow.Author.Tests.{tests}
use Rattle.std.proofs.lemmas.Iterator.{cases_from_all, YieldsList-from_range}
use Rattle.checking.proofs.PlayLaws.{Met, Unmet, leads_if_met}
use Rattle.checking.proofs.seat.leads.Seat+Snapshot.leads.Goals as goal

pub returns-then-promised : goal.returns-then-promised
returns-then-promised c =
    let met = Met c.args.self.now c.args.sets.now c.args.at.state c.args.at.phase c.args.own in
    let unmet = Unmet c.args.self.now c.args.sets.now c.args.at.state c.args.at.phase c.args.own in
    leads_if_met c.args.self.now c.args.sets.now _ _ _ c.all.result (sym c.if-promised.ensures)
    (cases_from_all _ _ _ met unmet c.all.ensures.ran (YieldsList-from_range 0 4 4 refl refl) (λ x q k. search (rules, tests)) (λ x q k. search (rules, tests)))
