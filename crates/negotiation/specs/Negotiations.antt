-- What is negotiated from an input: the first refusal, or the first workable deal of its two watched machines and both solved bounds.
use Rattle.std.specs.Prelude.{◌≡◌, ℕ, List, Some, None, Ok, Err, Result}
use Rattle.reading.specs.RuleSheets.{automaton_in}
use Rattle.reading.specs.PhaseTables.{table_in, table_of}
use Rattle.reading.specs.Sides.{both}
use Rattle.reading.specs.declared.phase_table.PhaseTable.{PhaseTable}
use Rattle.reading.specs.declared.sides.Sides.{Sides}
use Rattle.games.specs.declared.deal.Deal.{Deal}
use Rattle.games.specs.Machines.{Model, Marks}
use Rattle.games.specs.Listings.{sheet_model}
use Rattle.games.specs.Layers.{watched, watch_marks}
use Rattle.checking.specs.declared.search.Agreement.{Agreement}
use Rattle.checking.specs.declared.faults.SearchFault.{SearchFault}
use Rattle.checking.specs.Checks.{check_answer}
use Rattle.checking.specs.Solutions.{Solution}
use Rattle.checking.specs.Searching.{Searches}
use Rattle.bays.specs.Inputs.{Parts, parts_in}
use Rattle.bays.specs.Bays.{bay_fault, blame}
use Rattle.negotiation.specs.declared.negotiator.Settlement.{Settlement}
use Rattle.negotiation.specs.declared.refusals.Refusal.{Refusal}
use Rattle.negotiation.specs.declared.refusals.Refusal.TheVariants.{Bay, Search}

-- each side's machine sheet, watched by its rule sheet
abbrev pub machines : Parts → Sides Model
machines p = both (watched (sheet_model p.machine0) (automaton_in p.rule0)) (watched (sheet_model p.machine1) (automaton_in p.rule1))

-- and its goals and forbidden states by it
abbrev pub marks : Parts → Sides Marks
marks p = both (watch_marks (sheet_model p.machine0) (automaton_in p.rule0)) (watch_marks (sheet_model p.machine1) (automaton_in p.rule1))

-- a bound is that of the solved record for a side
pub record Reached (m : Model) (k : Marks) (t : PhaseTable) (d : Deal) (side bound : ℕ) : Type 0 where
  pub bytes : List ℕ
  pub solution : Solution m k t d side bytes
  pub accepted : check_answer m k t d side bytes ≡ Ok bound

-- the search with every try allowed answers a deal: its promises and its tries are told, and the bounds of both solved records under it
pub record Settled (m : Sides Model) (k : Sides Marks) (t : PhaseTable) (s : Settlement) : Type 0 where
  pub agreement : Agreement
  pub searched : Searches m k t 65535 (Ok agreement)
  pub promises : s.promises ≡ both agreement.deal.terms.first.promise agreement.deal.terms.second.promise
  pub tries : s.tries ≡ agreement.tries
  pub first : Reached m.first k.first t agreement.deal 0 s.bounds.first
  pub second : Reached m.second k.second t agreement.deal 1 s.bounds.second

-- what two games settle on
abbrev pub Settles : Sides Model → Sides Marks → PhaseTable → Result Settlement SearchFault → Type 0
Settles m k t (Ok s) = Settled m k t s
Settles m k t (Err f) = Searches m k t 65535 (Err f)

-- what the machines of some sheets settle on, with the phase table among them
pub record SheetsSettle (p : Parts) (r : Result Settlement SearchFault) : Type 0 where
  pub table : PhaseTable
  pub read : table_of table ≡ table_in p.table
  pub settles : Settles (machines p) (marks p) table r

-- what is negotiated: the sheets are read in turn, then both sides settle
abbrev pub Negotiates : List ℕ → Result Settlement Refusal → Type 0
Negotiates xs (Err (Bay f)) = bay_fault xs ≡ Some (blame f)
Negotiates xs (Err (Search f)) = (bay_fault xs ≡ None) × SheetsSettle (parts_in xs) (Err f)
Negotiates xs (Ok s) = (bay_fault xs ≡ None) × SheetsSettle (parts_in xs) (Ok s)
