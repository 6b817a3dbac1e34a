use Rattle.std.proofs.Common.{sym, arith}
use Rattle.checking.proofs.CandidateLaws.{some_columns, row_below, column_below, candidate_is}
use Rattle.checking.proofs.search.candidates.Candidates.at.Goals as goal

pub nonzero_div-result : goal.nonzero_div-result
nonzero_div-result c = let y = c.args.self.now in some_columns y.table.now.sizes y.first.now y.second.now y.listed0 y.listed1 c.args.place c.requires

pub offset_bounds-self-place : goal.offset_bounds-self-place
offset_bounds-self-place c = let y = c.args.self.now in omega (arith, row_below y.table.now.sizes y.first.now y.second.now y.listed0 y.listed1 c.args.place c.requires)

pub bounds-self-place : goal.bounds-self-place
bounds-self-place c = let y = c.args.self.now in row_below y.table.now.sizes y.first.now y.second.now y.listed0 y.listed1 c.args.place c.requires

pub nonzero_rem-result : goal.nonzero_rem-result
nonzero_rem-result c = let y = c.args.self.now in some_columns y.table.now.sizes y.first.now y.second.now y.listed0 y.listed1 c.args.place c.requires

pub offset_bounds-self-place-2 : goal.offset_bounds-self-place-2
offset_bounds-self-place-2 c = let y = c.args.self.now in omega (arith, column_below y.table.now.sizes y.first.now y.second.now y.listed0 y.listed1 c.args.place c.requires)

pub bounds-self-place-2 : goal.bounds-self-place-2
bounds-self-place-2 c = let y = c.args.self.now in column_below y.table.now.sizes y.first.now y.second.now y.listed0 y.listed1 c.args.place c.requires

pub returns : goal.returns
returns c = let y = c.args.self.now in sym (candidate_is y.table.now.sizes y.first.now y.second.now y.listed0 y.listed1 c.args.place c.requires)
