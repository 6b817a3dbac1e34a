-- A machine sheet watched by a rule sheet.
use Rattle.std.specs.Prelude.{◌≡◌, ℕ, Bool, true, false, List, Option, Result}
use Rattle.std.specs.Option.{option_map}
use Rattle.std.specs.Result.{result_err}
use Rattle.reading.specs.Firsts.{first_some}
use Rattle.reading.specs.Faults.{Fault}
use Rattle.reading.specs.Faults.{numbers as read_numbers}
use Rattle.reading.specs.MachineSheets.{sheet_in, machine_fault}
use Rattle.reading.specs.RuleSheets.{automaton_in, automaton_of, rule_fault}
use Rattle.games.specs.declared.sheet_machine.SheetMachine.{SheetMachine}
use Rattle.games.specs.declared.watched.Watched.{Watched}
use Rattle.games.specs.declared.watched.sheets.SheetsFault.{SheetsFault}
use Rattle.games.specs.declared.watched.sheets.SheetsFault.TheVariants.{Machine, Rule}
use Rattle.games.specs.Listings.{sheet_model}
use Rattle.games.specs.SheetMachines.{machine_of}

-- a fault of reading, and whether it is in the rule sheet
pub record Blame : Type 0 where
  pub rule : Bool
  pub fault : Fault

-- a fault of the machine sheet
abbrev pub in_machine : Fault → Blame
in_machine f = record { rule = false; fault = f }

-- a fault of the rule sheet
abbrev pub in_rule : Fault → Blame
in_rule f = record { rule = true; fault = f }

-- sheet and fault of each case; every promise about these refusals reads this definition
abbrev pub blame : SheetsFault → Blame
blame (Machine f) = in_machine (read_numbers f)
blame (Rule f) = in_rule (read_numbers f)

-- the refusal in an answer, none where there is a game
abbrev pub refused : {A : Type 0} → Result A SheetsFault → Option Blame
refused r = option_map blame (result_err r)

-- the machine sheet is refused, or the rule sheet for its states
abbrev pub sheets_fault : List ℕ → List ℕ → Option Blame
sheets_fault sheet rule =
    first_some (option_map in_machine (machine_fault sheet))
    (option_map in_rule (rule_fault (sheet_in sheet).states rule))

-- a game has the machine of the one sheet, watched by the automaton of the other
pub record Plays (xs ys : List ℕ) (g : Watched SheetMachine) : Type 0 where
  pub machine : machine_of g.below ≡ sheet_model xs
  pub rule : automaton_of g.rule ≡ automaton_in ys
