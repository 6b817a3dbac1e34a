use Rattle.std.proofs.Common.{◌≡◌, true, false, rules, refl}
use borrow.Author.Tests.{tests}
use Rattle.std.proofs.lemmas.Iterator.{cases_from_any, YieldsList-from_range}
use Rattle.checking.specs.Arenas.{relied}
use Rattle.checking.proofs.PlayLaws.{any_below}
use Rattle.checking.proofs.seat.leads.Seat+Snapshot.relies.Goals as goal

pub returns : goal.returns
returns c =
    let y = c.args.self.now in
    any_below 4 (relied y.deal.now y.side c.args.phase) c.any.result
    (cases_from_any _ _ _ (λ t. relied y.deal.now y.side c.args.phase t ≡ true) (λ t. relied y.deal.now y.side c.args.phase t ≡ false) c.any.ensures.ran
    (YieldsList-from_range 0 4 4 refl refl) (λ x q k. search (rules, tests)) (λ x q k. search (rules, tests)))
