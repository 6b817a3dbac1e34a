use Rattle.std.proofs.Common.{arith}
use Rattle.checking.proofs.StateSetLaws.{lowest_none, lowest_some}
use Rattle.checking.proofs.state_set.ask.lowest.Goals as goal

pub returns-then-rest-eq0 : goal.returns-then-rest-eq0
returns-then-rest-eq0 c = lowest_none c.args.word c.args.from c.if-rest-eq0.true

pub returns : goal.returns
returns c = lowest_some c.args.word c.args.from (omega arith) c.if-rest-eq0.false
