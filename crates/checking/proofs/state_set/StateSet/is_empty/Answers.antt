use Rattle.std.proofs.Common.{arith}
use Rattle.std.proofs.lemmas.Bool.{eqb-false}
use Rattle.checking.proofs.StateSetLaws.{some_low, some_high}
use Rattle.checking.proofs.state_set.StateSet.is_empty.Goals as goal

pub returns-then-self-eq0-clause-some : goal.returns-then-self-eq0-clause-some
returns-then-self-eq0-clause-some c = λ e. some_high c.args.self.now (eqb-false _ _ e)

pub returns-else-self-eq0-clause-some : goal.returns-else-self-eq0-clause-some
returns-else-self-eq0-clause-some c = λ e. some_low c.args.self.now (omega arith) c.if-self-eq0.false
