-- How many states have a mark.
use Rattle.std.specs.Prelude.{ℕ, Bool, List, count_by}
use Rattle.std.specs.List.{range_with_len}
use Rattle.reading.specs.MarkSheets.{Sets}
use Rattle.inspection.specs.declared.marks.Mark.{Mark}
use Rattle.inspection.specs.declared.marks.Mark.TheVariants.{Forbidden, Goal}

-- the set of the states with a mark
abbrev pub set_of : Mark → Sets → List ℕ
set_of Forbidden s = s.forbidden
set_of Goal s = s.goals

-- at how many of the indices below n the test holds
abbrev pub tally : ℕ → (ℕ → Bool) → ℕ
tally n f = count_by f (range_with_len 0 n)
