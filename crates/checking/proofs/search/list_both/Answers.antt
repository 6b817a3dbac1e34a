use Rattle.std.proofs.Common.{rules}
use Rattle.checking.proofs.CandidateLaws.{many_first, many_second, few_product}
use Rattle.checking.proofs.search.list_both.Goals as goal

pub returns-then-not-list-clause-few : goal.returns-then-not-list-clause-few
returns-then-not-list-clause-few c = many_first c.args.sizes 65535 (c.list.ensures.many (search rules))

pub returns-then-not-list-2-clause-few : goal.returns-then-not-list-2-clause-few
returns-then-not-list-2-clause-few c = many_second c.args.sizes 65535 (c.list-2.ensures.many (search rules))

pub returns-clause-few : goal.returns-clause-few
returns-clause-few c = few_product c.args.sizes c.numbers.result.now c.numbers-2.result.now 65535 (search rules) (search rules)
