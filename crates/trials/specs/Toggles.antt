-- The toggle: two states, labels 0 and 1, two signals each way; it changes state if both show 1, else it stays. And where two of them
-- meet.
use Rattle.std.specs.Prelude.{◌≡◌, ℕ, List, [], ◌∷◌}
use Rattle.reading.specs.RuleSheets.{automaton_in}
use Rattle.reading.specs.Sides.{both}
use Rattle.reading.specs.declared.phase_table.PhaseTable.{PhaseTable}
use Rattle.games.specs.declared.deal.Deal.{Deal}
use Rattle.games.specs.Machines.{Model, Marks}
use Rattle.games.specs.Listings.{sheet_model}
use Rattle.games.specs.Layers.{watched, watch_marks}
use Rattle.games.specs.Signings.{Dealt}
use Rattle.checking.specs.Searching.{terms_of}

-- its machine sheet
abbrev pub toggle : List ℕ
toggle =
    2 ∷ 0 ∷ 2 ∷ 2 ∷ 0 ∷ 0 ∷ 8 ∷ 0 ∷ 0 ∷ 1 ∷ 0 ∷ 0 ∷ 1 ∷ 0 ∷ 2 ∷ 0 ∷ 3 ∷ 0 ∷ 4 ∷ 0 ∷ 5 ∷ 0 ∷ 6 ∷ 0 ∷ 7 ∷ 0
    ∷ 0 ∷ 0 ∷ 0 ∷ 0 ∷ 0 ∷ 0 ∷ 1 ∷ 0 ∷ 1 ∷ 0 ∷ 1 ∷ 0 ∷ 1 ∷ 0 ∷ 0 ∷ 0 ∷ []

-- its rule sheet: state 1, which label 1 leads to, is accepting
abbrev pub rule : List ℕ
rule = 2 ∷ 2 ∷ 0 ∷ 0 ∷ 0 ∷ 1 ∷ 0 ∷ 0 ∷ 0 ∷ 0 ∷ 0 ∷ 0 ∷ 0 ∷ 1 ∷ 0 ∷ 0 ∷ 0 ∷ 0 ∷ 0 ∷ 0 ∷ []

-- the toggle watched by its rule sheet
abbrev pub watched_toggle : Model
watched_toggle = watched (sheet_model toggle) (automaton_in rule)

-- its goals and forbidden states
abbrev pub toggle_marks : Marks
toggle_marks = watch_marks (sheet_model toggle) (automaton_in rule)

-- a table of one phase with two signals each way: it leads from phase 0 to phase 0
pub record OnePhase (t : PhaseTable) : Type 0 where
  pub phases : t.sizes.phases ≡ 1
  pub first : t.sizes.signals.first ≡ 2
  pub second : t.sizes.signals.second ≡ 2

-- a deal on such a table by which each side promises a set of signals, and relies on the same
pub record Meets (set : ℕ) (t : PhaseTable) (d : Deal) : Type 0 where
  pub one_phase : OnePhase t
  pub dealt : Dealt t.sizes (terms_of (both set set)) d

-- there are such a table and such a deal
abbrev pub Met : ℕ → Type 0
Met set = (t : PhaseTable) × (d : Deal) × Meets set t d

-- a record of four states and one phase that chooses signal 1 everywhere, by its ranks
abbrev pub ranked : ℕ → ℕ → ℕ → ℕ → List ℕ
ranked r0 r1 r2 r3 = 4 ∷ 0 ∷ 1 ∷ 2 ∷ 1 ∷ 1 ∷ 1 ∷ 1 ∷ r0 ∷ 0 ∷ r1 ∷ 0 ∷ r2 ∷ 0 ∷ r3 ∷ 0 ∷ []
