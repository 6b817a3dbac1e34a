use Rattle.std.proofs.Common.{sym, ap, ◌∙◌}
use Rattle.games.specs.Sets.{width, has}
use Rattle.games.proofs.DealLaws.{promised_in_range}
use Rattle.games.proofs.deal.Deal.promises.Goals as goal

pub returns-clause-inside : goal.returns-clause-inside
returns-clause-inside c e =
    let a = c.args in
    promised_in_range a.self.now a.side a.phase a.signal (sym (c.has.ensures ∙ ap (λ set. has width set a.phase a.signal) c.promise.ensures) ∙ e)
