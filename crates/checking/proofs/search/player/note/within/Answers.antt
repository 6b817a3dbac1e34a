use Rattle.std.proofs.Common.{arith}
use Rattle.std.proofs.lemmas.Bool.{eqb-true, eq-eqb}
use Rattle.checking.proofs.StateSetLaws.{word_from, word_to}
use Rattle.checking.proofs.search.player.note.within.Goals as goal

pub returns : goal.returns
returns c = (λ e i h. word_from c.args.inner c.args.outer i (eqb-true _ _ e) h, λ w. eq-eqb _ _ (word_to 32 c.args.inner c.args.outer (omega arith) w))
