use Rattle.checking.proofs.StateSetLaws.{insert_low, insert_high}
use Rattle.checking.proofs.state_set.StateSet.insert.Goals as goal

pub returns-then-state-lt-WORD : goal.returns-then-state-lt-WORD
returns-then-state-lt-WORD c = insert_low c.args.self.now c.args.state c.if-state-lt-WORD.true

pub returns-else-state-lt-WORD : goal.returns-else-state-lt-WORD
returns-else-state-lt-WORD c = insert_high c.args.self.now c.args.state c.if-state-lt-WORD.false c.requires
