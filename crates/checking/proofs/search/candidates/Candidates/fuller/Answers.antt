use Rattle.std.proofs.Common.{◌/◌, ◌%◌, length}
use Rattle.checking.proofs.CandidateLaws.{some_columns, row_below, column_below, place_below}
use Rattle.checking.proofs.search.candidates.Candidates.fuller.Goals as goal

pub nonzero_div-row : goal.nonzero_div-row
nonzero_div-row c = let y = c.args.self.now in some_columns y.table.now.sizes y.first.now y.second.now y.listed0 y.listed1 c.args.place c.requires.place

pub nonzero_rem-column : goal.nonzero_rem-column
nonzero_rem-column c = let y = c.args.self.now in some_columns y.table.now.sizes y.first.now y.second.now y.listed0 y.listed1 c.args.place c.requires.place

pub last_in_block-requires-clause-place : goal.last_in_block-requires-clause-place
last_in_block-requires-clause-place c = let y = c.args.self.now in row_below y.table.now.sizes y.first.now y.second.now y.listed0 y.listed1 c.args.place c.requires.place

pub last_in_block-requires-else-side-eq0-clause-place : goal.last_in_block-requires-else-side-eq0-clause-place
last_in_block-requires-else-side-eq0-clause-place c = let y = c.args.self.now in column_below y.table.now.sizes y.first.now y.second.now y.listed0 y.listed1 c.args.place c.requires.place

pub returns-then-side-eq0 : goal.returns-then-side-eq0
returns-then-side-eq0 c =
    let y = c.args.self.now in
    place_below y.table.now.sizes y.first.now y.second.now y.listed0 y.listed1 c.last_in_block.result (c.args.place % length y.second.now)
    c.last_in_block.ensures
    (column_below y.table.now.sizes y.first.now y.second.now y.listed0 y.listed1 c.args.place c.requires.place)

pub returns-else-side-eq0 : goal.returns-else-side-eq0
returns-else-side-eq0 c =
    let y = c.args.self.now in
    place_below y.table.now.sizes y.first.now y.second.now y.listed0 y.listed1 (c.args.place / length y.second.now) c.last_in_block-else-side-eq0.result
    (row_below y.table.now.sizes y.first.now y.second.now y.listed0 y.listed1 c.args.place c.requires.place)
    c.last_in_block-else-side-eq0.ensures
