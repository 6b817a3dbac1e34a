-- A bay: two watched machines and a phase table.
use Rattle.std.specs.Prelude.{◌≡◌, ℕ, suc, cond, List, Option, Result}
use Rattle.std.specs.Option.{option_map}
use Rattle.std.specs.Result.{result_err}
use Rattle.reading.specs.Firsts.{first_some}
use Rattle.reading.specs.Faults.{Fault}
use Rattle.reading.specs.Faults.{numbers as read_numbers}
use Rattle.reading.specs.PhaseTables.{table_in, table_of, phase_fault}
use Rattle.games.specs.WatchedSheets.{Plays, sheets_fault}
use Rattle.games.specs.WatchedSheets.{Blame as Sheet, blame as sheet_blame}
use Rattle.bays.specs.declared.bay.Bay.{Bay}
use Rattle.bays.specs.declared.faults.BayFault.{BayFault}
use Rattle.bays.specs.declared.faults.BayFault.TheVariants.{Lengths, First, Second, Table}
use Rattle.bays.specs.Inputs.{Parts, parts_in, input_fault}

-- a fault of reading, and the part that it is in: 0 the lengths, 1 and 2 side 0's machine sheet and rule sheet, 3 and 4 side 1's,
-- 5 the phase table
pub record Blame : Type 0 where
  pub part : ℕ
  pub fault : Fault

-- a fault in a part
abbrev pub at : ℕ → Fault → Blame
at part f = record { part = part; fault = f }

-- a fault in one of the two sheets of a side, which are the parts from `first` on
abbrev pub in_sheets : ℕ → Sheet → Blame
in_sheets first s = at (cond s.rule (suc first) first) s.fault

-- part and fault of each case; every promise about these refusals reads this definition
abbrev pub blame : BayFault → Blame
blame (Lengths f) = at 0 (read_numbers f)
blame (First f) = in_sheets 1 (sheet_blame f)
blame (Second f) = in_sheets 3 (sheet_blame f)
blame (Table f) = at 5 (read_numbers f)

-- the refusal in an answer, none where there is a bay
abbrev pub refused : {A : Type 0} → Result A BayFault → Option Blame
refused r = option_map blame (result_err r)

-- the sheets are read in turn
abbrev pub parts_fault : Parts → Option Blame
parts_fault p =
    first_some (option_map (in_sheets 1) (sheets_fault p.machine0 p.rule0))
    (first_some (option_map (in_sheets 3) (sheets_fault p.machine1 p.rule1))
    (option_map (at 5) (phase_fault p.table)))

-- the first fault of an input
abbrev pub bay_fault : List ℕ → Option Blame
bay_fault xs = first_some (option_map (at 0) (input_fault xs)) (parts_fault (parts_in xs))

-- a bay holds what the sheets say
pub record Holds (p : Parts) (b : Bay) : Type 0 where
  pub first : Plays p.machine0 p.rule0 b.games.first
  pub second : Plays p.machine1 p.rule1 b.games.second
  pub table : table_of b.table ≡ table_in p.table
