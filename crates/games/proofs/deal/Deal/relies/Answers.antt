use Rattle.std.proofs.Common.{sym, ap, ◌∙◌}
use Rattle.games.specs.Sets.{width, has}
use Rattle.games.proofs.DealLaws.{relied_in_range}
use Rattle.games.proofs.deal.Deal.relies.Goals as goal

pub returns-clause-inside : goal.returns-clause-inside
returns-clause-inside c e =
    let a = c.args in
    relied_in_range a.self.now a.side a.phase a.signal (sym (c.has.ensures ∙ ap (λ set. has width set a.phase a.signal) c.reliance.ensures) ∙ e)
