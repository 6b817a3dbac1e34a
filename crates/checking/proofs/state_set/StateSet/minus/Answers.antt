use Rattle.std.proofs.Common.{arith}
use Rattle.checking.proofs.StateSetLaws.{minus_member}
use Rattle.checking.proofs.state_set.StateSet.minus.Goals as goal

pub returns : goal.returns
returns c = minus_member c.args.self.now c.args.other.now (omega arith) (omega arith) (omega arith) (omega arith)
