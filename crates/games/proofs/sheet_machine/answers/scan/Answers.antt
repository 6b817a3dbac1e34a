use Rattle.std.proofs.lemmas.Bool.{and_left, and_right, ne_eqb}
use Rattle.games.proofs.ListLaws.{listed_here, listed_later, listed_never}
use Rattle.games.proofs.sheet_machine.answers.scan.Goals as goal
use Rattle.games.proofs.sheet_machine.answers.scan.Goals.{else-m-key-via-then-m-key+else-m-target, else-m-key-via-else-m-key}

pub returns-then-m-target : goal.returns-then-m-target
returns-then-m-target c = listed_here _ _ _ c.loop-m.m-index c.loop-m.invariant c.loop-m-test.true c.if-m-key.true c.if-m-target.true

pub loop-m-preserved : goal.loop-m-preserved
loop-m-preserved c = listed_later _ _ _ c.loop-m.m-index c.loop-m.invariant c.loop-m-test.true (elim c.else-m-key.branch [
  | else-m-key-via-then-m-key+else-m-target w ↦ and_right _ _ (ne_eqb _ _ w.if-m-target.false)
  | else-m-key-via-else-m-key w ↦ and_left _ _ (ne_eqb _ _ w.if-m-key.false)
])

pub returns : goal.returns
returns c = listed_never _ _ _ c.loop-m.m-index c.loop-m.invariant c.loop-m-test.false
