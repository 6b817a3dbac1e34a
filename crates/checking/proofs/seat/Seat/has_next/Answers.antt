use Rattle.std.proofs.Common.{◌≡◌, true, false, rules, refl, arith}
use borrow.Author.Tests.{tests}
use Rattle.std.proofs.lemmas.Iterator.{cases_from_any, YieldsList-from_range}
use Rattle.checking.proofs.PlayLaws.{any_below}
use Rattle.checking.proofs.seat.Seat.has_next.Goals as goal

pub returns : goal.returns
returns g c =
    let m = g.G.Machine.meaning c.args.self.now.game.now in
    any_below m.states (m.move c.args.state c.args.own c.args.partner) c.any.result
    (cases_from_any _ _ _ (λ t. m.move c.args.state c.args.own c.args.partner t ≡ true) (λ t. m.move c.args.state c.args.own c.args.partner t ≡ false) c.any.ensures.ran
    (YieldsList-from_range 0 c.states.result m.states refl (omega (arith, c.states.ensures))) (λ x q k. search (rules, tests)) (λ x q k. search (rules, tests)))
