use Rattle.std.proofs.Common.{refl, ◌∙◌}
use Rattle.games.proofs.SearchLaws.{searched}
use Rattle.games.proofs.sheet_machine.answers.lists.Goals as goal

pub returns-else-moves-le-SHORT : goal.returns-else-moves-le-SHORT
returns-else-moves-le-SHORT c = c.is_ok.ensures.value ∙ searched c.args.key c.args.target c.args.moves.now c.requires _ (λ m. refl) _ c.binary_search.ensures.bound c.binary_search.ensures.position
