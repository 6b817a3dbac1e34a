-- What is planned from an input and both sides' terms: the first refusal, or what solving answers for each side.
use Rattle.std.specs.Prelude.{◌≡◌, ℕ, List, [], ◌∷◌, ◌++◌, replicate, codes, decimal, vec_items, Some, None, Ok, Err, Result}
use Rattle.reading.specs.Faults.{printed}
use Rattle.reading.specs.RuleSheets.{automaton_in}
use Rattle.reading.specs.PhaseTables.{table_in, table_of}
use Rattle.reading.specs.declared.phase_table.PhaseTable.{PhaseTable}
use Rattle.reading.specs.declared.sides.Sides.{Sides}
use Rattle.games.specs.declared.deal.Terms.{Terms}
use Rattle.games.specs.declared.deal.Deal.{Deal}
use Rattle.games.specs.Machines.{Model, Marks}
use Rattle.games.specs.Listings.{sheet_model}
use Rattle.games.specs.Layers.{watched, watch_marks}
use Rattle.games.specs.Signings.{deal_fault, Dealt}
use Rattle.games.specs.Signings.{numbers as sign_numbers}
use Rattle.checking.specs.Solutions.{Solves, record_size}
use Rattle.bays.specs.Inputs.{parts_in}
use Rattle.bays.specs.Bays.{blame, bay_fault}
use Rattle.planning.specs.declared.refusals.Refusal.{Refusal}
use Rattle.planning.specs.declared.refusals.Refusal.TheVariants.{Bay, Terms as Unagreed}
use Rattle.planning.specs.declared.plans.Plan.{Plan}
use Rattle.planning.specs.declared.plans.Plans.{Plans}

-- a refusal in print: a fault of the input has its place, too; every promise about printed refusals reads this definition
abbrev pub line : Refusal → List ℕ
line (Bay f) = printed (blame f).fault
line (Unagreed f) = codes "refused " ++ decimal (sign_numbers f).number

-- a refusal in print, and a line of words
abbrev pub Tells : List ℕ → List ℕ → Type 0
Tells l text = (why : List ℕ) × (text ≡ l ++ (10 ∷ (why ++ 10 ∷ [])))

-- a plan is what solving answers, and its record what solving made of zeros
pub record Answered (m : Model) (k : Marks) (t : PhaseTable) (d : Deal) (side : ℕ) (p : Plan) : Type 0 where
  pub solves : Solves m k t d side (replicate (record_size m.states t.sizes.phases) 0) (vec_items p.record) p.answer

-- the plan of a side whose machine and rule sheet are given
abbrev pub SidePlan : List ℕ → List ℕ → PhaseTable → Deal → ℕ → Plan → Type 0
SidePlan sheet rule = Answered (watched (sheet_model sheet) (automaton_in rule)) (watch_marks (sheet_model sheet) (automaton_in rule))

-- both sides are planned for under the input's phase table and the deal on the terms
pub record BothPlanned (xs : List ℕ) (s : Sides Terms) (p : Plans) : Type 0 where
  pub table : PhaseTable
  pub deal : Deal
  pub read : table_of table ≡ table_in (parts_in xs).table
  pub dealt : Dealt table.sizes s deal
  pub first : SidePlan (parts_in xs).machine0 (parts_in xs).rule0 table deal 0 p.sides.first
  pub second : SidePlan (parts_in xs).machine1 (parts_in xs).rule1 table deal 1 p.sides.second

-- what is planned: the parts of the input are read in turn, then both sides' terms are signed, then each side is planned for
abbrev pub Planned : List ℕ → Sides Terms → Result Plans Refusal → Type 0
Planned xs s (Err (Bay f)) = bay_fault xs ≡ Some (blame f)
Planned xs s (Err (Unagreed f)) = (bay_fault xs ≡ None) × (deal_fault (table_in (parts_in xs).table) s ≡ Some (sign_numbers f))
Planned xs s (Ok p) = (bay_fault xs ≡ None) × (deal_fault (table_in (parts_in xs).table) s ≡ None) × BothPlanned xs s p
