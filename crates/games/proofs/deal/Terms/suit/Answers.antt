use Rattle.std.proofs.Common.{rules}
use Rattle.std.proofs.lemmas.Bool.Decides.{Decides-at}
use Rattle.games.proofs.DealLaws.{terms_decided}
use Rattle.games.proofs.deal.Terms.suit.Goals as goal

pub returns-then-described-clause-words : goal.returns-then-described-clause-words
returns-then-described-clause-words c = Decides-at _ _ (search rules) (terms_decided _ _ _ _)

pub returns-else-described-clause-words : goal.returns-else-described-clause-words
returns-else-described-clause-words c = Decides-at _ _ (search rules) (terms_decided _ _ _ _)
