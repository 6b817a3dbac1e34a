use Rattle.std.proofs.Common.{◌/◌, ◌%◌, ◌-◌, length, arith}
use Rattle.checking.proofs.CandidateLaws.{some_columns, row_below, column_below, place_below, count_is, count_fits}
use Rattle.checking.proofs.search.candidates.Candidates.fullest.Goals as goal

pub nonzero_rem-result : goal.nonzero_rem-result
nonzero_rem-result c = let y = c.args.self.now in some_columns y.table.now.sizes y.first.now y.second.now y.listed0 y.listed1 c.args.place c.requires

pub nonzero_div-result : goal.nonzero_div-result
nonzero_div-result c = let y = c.args.self.now in some_columns y.table.now.sizes y.first.now y.second.now y.listed0 y.listed1 c.args.place c.requires

pub overflow_sub-result-else-side-eq0 : goal.overflow_sub-result-else-side-eq0
overflow_sub-result-else-side-eq0 c = let y = c.args.self.now in some_columns y.table.now.sizes y.first.now y.second.now y.listed0 y.listed1 c.args.place c.requires

pub returns-then-side-eq0 : goal.returns-then-side-eq0
returns-then-side-eq0 c =
    let y = c.args.self.now in
    place_below y.table.now.sizes y.first.now y.second.now y.listed0 y.listed1 (length y.first.now - 1) (c.args.place % length y.second.now)
    (omega (arith, row_below y.table.now.sizes y.first.now y.second.now y.listed0 y.listed1 c.args.place c.requires))
    (column_below y.table.now.sizes y.first.now y.second.now y.listed0 y.listed1 c.args.place c.requires)

pub returns-else-side-eq0 : goal.returns-else-side-eq0
returns-else-side-eq0 c =
    let y = c.args.self.now in
    place_below y.table.now.sizes y.first.now y.second.now y.listed0 y.listed1 (c.args.place / length y.second.now) (length y.second.now - 1)
    (row_below y.table.now.sizes y.first.now y.second.now y.listed0 y.listed1 c.args.place c.requires)
    (omega (arith, some_columns y.table.now.sizes y.first.now y.second.now y.listed0 y.listed1 c.args.place c.requires))

pub overflow_add-result-else-side-eq0 : goal.overflow_add-result-else-side-eq0
overflow_add-result-else-side-eq0 c =
    let y = c.args.self.now in
    omega (
      arith,
      count_is y.table.now.sizes y.first.now y.second.now y.listed0 y.listed1,
      count_fits y.table.now.sizes y.first.now y.second.now y.listed0 y.listed1 y.few0 y.few1,
      place_below y.table.now.sizes y.first.now y.second.now y.listed0 y.listed1 (c.args.place / length y.second.now) (length y.second.now - 1)
          (row_below y.table.now.sizes y.first.now y.second.now y.listed0 y.listed1 c.args.place c.requires)
          (omega (arith, some_columns y.table.now.sizes y.first.now y.second.now y.listed0 y.listed1 c.args.place c.requires)),
    )
