-- A recording: a bay, and the calls that were put to its cell; and what its replay tells.
use Rattle.std.specs.Prelude.{◌≡◌, ℕ, zero, suc, ◌+◌, List, [], ◌++◌, length, codes, Some, None, Ok, Err, Option, Result, MatchOption, nat_le}
use Rattle.std.specs.Option.{option_map}
use Rattle.reading.specs.Firsts.{first_some, unless}
use Rattle.reading.specs.RuleSheets.{automaton_in, automaton_of}
use Rattle.reading.specs.Sides.{both}
use Rattle.reading.specs.declared.sides.Sides.{Sides}
use Rattle.games.specs.declared.sheet_machine.SheetMachine.{SheetMachine}
use Rattle.games.specs.declared.watched.Watched.{Watched}
use Rattle.games.specs.Listings.{sheet_model}
use Rattle.games.specs.SheetMachines.{machine_of}
use Rattle.games.specs.Layers.{watched, watch_marks}
use Rattle.games.specs.WatchedSheets.{Plays}
use Rattle.bays.specs.Inputs.{Parts, parts_in, size_in}
use Rattle.bays.specs.Bays.{Blame, bay_fault}
use Rattle.cell.specs.Logs.{Games, Told, Event}
use Rattle.cell.specs.Cells.{Replayed}
use Rattle.recordings.specs.declared.damage.Damage.{Damage}
use Rattle.recordings.specs.declared.recording.Mark.{Mark}
use Rattle.recordings.specs.declared.recording.Recording.{Recording}
use Rattle.recordings.specs.Damages.{Spot, spot, bay_spot, numbers, printed}
use Rattle.recordings.specs.Calls.{part, part_end}
use Rattle.recordings.specs.Marks.{Recorded, events, puts}
use Rattle.recordings.specs.Lines.{lines}

-- an input begins with the two-byte length of its bay and the bay
abbrev pub bay_in : List ℕ → List ℕ
bay_in xs = part xs 0

-- where the calls begin
abbrev pub calls_at : List ℕ → ℕ
calls_at xs = part_end xs 0

-- where the part of a bay begins that a fault is in: 0 the lengths, then the sheets in turn
abbrev pub start_in : List ℕ → ℕ → ℕ
start_in xs zero = 0
start_in xs (suc zero) = 10
start_in xs (suc (suc zero)) = 10 + size_in xs 0
start_in xs (suc (suc (suc zero))) = 10 + size_in xs 0 + size_in xs 1
start_in xs (suc (suc (suc (suc zero)))) = 10 + size_in xs 0 + size_in xs 1 + size_in xs 2
start_in xs (suc (suc (suc (suc (suc n))))) = 10 + size_in xs 0 + size_in xs 1 + size_in xs 2 + size_in xs 3

-- a fault of the bay, placed in the whole input
abbrev pub placed : List ℕ → Blame → Spot
placed xs b = bay_spot b (2 + start_in xs b.part + b.fault.place)

-- the input ends inside the length or the bay
abbrev pub short_fault : List ℕ → Option Spot
short_fault xs = unless (nat_le (calls_at xs) (length xs)) (spot 1 (length xs))

-- the damage before the calls: the input is too short, its bay is refused
abbrev pub head_fault : List ℕ → Option Spot
head_fault xs = first_some (short_fault xs) (option_map (placed (bay_in xs)) (bay_fault (bay_in xs)))

-- the games of a bay: each side's machine sheet, watched by its rule sheet
abbrev pub games_in : Parts → Games
games_in p = record {
  machines = both (watched (sheet_model p.machine0) (automaton_in p.rule0)) (watched (sheet_model p.machine1) (automaton_in p.rule1));
  marks = both (watch_marks (sheet_model p.machine0) (automaton_in p.rule0)) (watch_marks (sheet_model p.machine1) (automaton_in p.rule1));
}

-- the games that a bay's sheets say
pub record GamesRead (bay : List ℕ) (g : Sides (Watched SheetMachine)) : Type 0 where
  pub first : Plays (parts_in bay).machine0 (parts_in bay).rule0 g.first
  pub second : Plays (parts_in bay).machine1 (parts_in bay).rule1 g.second

-- a recording holds the bay and the calls of an input
pub record Holds (xs : List ℕ) (r : Recording) : Type 0 where
  pub games : GamesRead (bay_in xs) r.games
  pub calls : Recorded xs (calls_at xs) r.calls.marks.items (events r.calls) r.calls.damage

-- what is read: a recording where nothing is damaged before the calls
abbrev pub Reads : List ℕ → Result Recording Damage → Type 0
Reads xs (Ok r) = (head_fault xs ≡ None) × Holds xs r
Reads xs (Err d) = head_fault xs ≡ Some (numbers d)

-- the last line, where the calls are damaged
abbrev pub last_line : Option Damage → List ℕ
last_line None = []
last_line (Some d) = printed (numbers d) ++ codes "\n"

-- the games that a recording holds
abbrev pub games_of : Sides (Watched SheetMachine) → Games
games_of g = record {
  machines = both (watched (machine_of g.first.below) (automaton_of g.first.rule)) (watched (machine_of g.second.below) (automaton_of g.second.rule));
  marks = both (watch_marks (machine_of g.first.below) (automaton_of g.first.rule)) (watch_marks (machine_of g.second.below) (automaton_of g.second.rule));
}

-- the lines of a recording: those of its calls by the answers of the cell's log, at every point of which the law of the cell holds; and
-- a last one where they are damaged
pub record Shows (r : Recording) (text : List ℕ) : Type 0 where
  pub given : List Told
  pub replayed : Replayed (games_of r.games) (events r.calls) given
  pub told : text ≡ lines r.calls.marks.items given ++ last_line r.calls.damage

-- the same of an input; each call that is put to the cell has its answer, and so its line
pub record Retold (xs text : List ℕ) : Type 0 where
  pub marks : List Mark
  pub put : List Event
  pub damage : Option Damage
  pub given : List Told
  pub recorded : Recorded xs (calls_at xs) marks put damage
  pub replayed : Replayed (games_in (parts_in (bay_in xs))) put given
  pub each : length given ≡ puts marks
  pub told : text ≡ lines marks given ++ last_line damage

-- what a replay tells: its lines, or the one line of the damage before the calls
abbrev pub Tells : List ℕ → List ℕ → Type 0
Tells xs text = MatchOption (head_fault xs) (Retold xs text) (λ s. text ≡ printed s ++ codes "\n")
