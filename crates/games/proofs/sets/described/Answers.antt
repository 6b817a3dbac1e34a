use Rattle.std.proofs.Common.{rules, Bool, ◌&&◌, refl, ap, ◌∙◌, arith}
use Rattle.std.proofs.lemmas.Iterator.{YieldsList-from_range}
use Rattle.std.proofs.lemmas.Iterator.Search.{all_from_yields_List}
use borrow.Author.Tests.{tests}
use Rattle.games.specs.Sets.{width, row, filled, all_below}
use Rattle.games.proofs.SetLaws.{all_in_range}
use Rattle.games.proofs.sets.described.Goals as goal

pub returns-then-ends : goal.returns-then-ends
returns-then-ends c =
    let n = c.args.phases in
    let each = all_from_yields_List (λ p. filled c.args.signals (row width c.args.set p)) _ _ c.all.result c.all.ensures.ran (YieldsList-from_range 0 n n refl (omega arith)) (λ x b q k. search (rules, tests)) in
    each ∙ all_in_range n _ ∙ ap (λ (b : Bool). b && all_below n (λ p. filled c.args.signals (row width c.args.set p))) c.if-ends.ensures
