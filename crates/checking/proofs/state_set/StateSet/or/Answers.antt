use Rattle.checking.proofs.StateSetLaws.{or_member}
use Rattle.checking.proofs.state_set.StateSet.or.Goals as goal

pub returns : goal.returns
returns c = or_member c.args.self.now c.args.other.now
