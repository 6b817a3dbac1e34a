use Rattle.std.proofs.Common.{arith}
use Rattle.std.proofs.lemmas.Bool.{eqb-true, eq-eqb}
use Rattle.checking.proofs.StateSetLaws.{within_from, low_within, high_within}
use Rattle.checking.proofs.state_set.StateSet.within.Goals as goal

pub returns-then-self-other : goal.returns-then-self-other
returns-then-self-other c = (
  λ e. within_from c.args.self.now c.args.other.now c.if-self-other.true (eqb-true _ _ e),
  λ h. eq-eqb _ _ (high_within c.args.self.now c.args.other.now h (omega arith)),
)

pub returns-else-self-other : goal.returns-else-self-other
returns-else-self-other c = (
  λ e. absurd (c.if-self-other.false (eqb-true _ _ e)),
  λ h. absurd (c.if-self-other.false (low_within c.args.self.now c.args.other.now h (omega arith))),
)
