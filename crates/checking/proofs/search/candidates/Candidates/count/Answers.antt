use Rattle.std.proofs.Common.{sym, arith}
use Rattle.checking.proofs.CandidateLaws.{count_is, count_fits}
use Rattle.checking.proofs.search.candidates.Candidates.count.Goals as goal

pub overflow_mul-result : goal.overflow_mul-result
overflow_mul-result c = let y = c.args.self.now in omega (arith, count_fits y.table.now.sizes y.first.now y.second.now y.listed0 y.listed1 y.few0 y.few1)

pub returns : goal.returns
returns c = let y = c.args.self.now in sym (count_is y.table.now.sizes y.first.now y.second.now y.listed0 y.listed1)
