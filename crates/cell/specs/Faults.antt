-- The faults of a cell: number, values and side.
use Rattle.std.specs.Prelude.{ℕ}
use Rattle.checking.specs.Faults.{none, refusal}
use Rattle.checking.specs.Faults.{Refusal as CheckRefusal, numbers as check_numbers}
use Rattle.cell.specs.declared.faults.CellFault.{CellFault}
use Rattle.cell.specs.declared.faults.CellFault.TheVariants.{Checking, NotKept, RankRises, Idle, NoChoice, NoSuchMove}

-- a refusal of checking, or one that names a number alone, and the side that it is about: 2 for neither
pub record Refusal : Type 0 where
  pub fault : CheckRefusal
  pub side : ℕ

-- a refusal of checking about a side
abbrev pub about : ℕ → CheckRefusal → Refusal
about side f = record { fault = f; side = side }

-- a refusal that names its number alone
abbrev pub bare : ℕ → ℕ → Refusal
bare n side = about side (refusal n none none none none)

-- number, values and side of each case; every promise about the faults of a cell reads this definition
abbrev pub numbers : CellFault → Refusal
numbers (Checking f side) = about side (check_numbers f)
numbers (NotKept side) = bare 30 side
numbers (RankRises side) = bare 31 side
numbers Idle = bare 32 2
numbers (NoSuchMove side) = bare 33 side
numbers (NoChoice side) = bare 34 side
