-- Searching for a deal of two watched toggles, on one phase with two signals each way.
use Rattle.std.specs.Prelude.{◌≡◌, ℕ, Some, Ok, Err, Result}
use Rattle.reading.specs.Sides.{both}
use Rattle.reading.specs.declared.sides.Sides.{Sides}
use Rattle.reading.specs.declared.phase_table.PhaseTable.{PhaseTable}
use Rattle.games.specs.Machines.{Model, Marks}
use Rattle.games.specs.Signings.{Dealt}
use Rattle.checking.specs.declared.faults.SearchFault.{SearchFault}
use Rattle.checking.specs.declared.search.Agreement.{Agreement}
use Rattle.checking.specs.Searching.{terms_of, search_number, search_tries, Searches}
use Rattle.trials.specs.Toggles.{watched_toggle, toggle_marks, OnePhase}

-- a watched toggle for each side
abbrev pub toggles : Sides Model
toggles = both watched_toggle watched_toggle

-- its goals and forbidden states for each side
abbrev pub toggles_marks : Sides Marks
toggles_marks = both toggle_marks toggle_marks

-- a deal is answered, after so many tries: both sides promise signal 1
abbrev pub Finds : PhaseTable → ℕ → Result Agreement SearchFault → Type 0
Finds t tries (Ok a) = (a.tries ≡ tries) × Dealt t.sizes (terms_of (both 2 2)) a.deal
Finds t tries (Err f) = ⊥

-- a refusal is answered, with its number and the tries that it carries
abbrev pub Refuses : ℕ → ℕ → Result Agreement SearchFault → Type 0
Refuses number tries (Ok a) = ⊥
Refuses number tries (Err f) = (search_number f ≡ number) × (search_tries f ≡ Some tries)

-- whatever searching answers, with every try allowed it is deal 2 2 after 5 tries, and with 4 tries it is 26 with 4 tries
pub record Searching : Type 0 where
  pub found : (t : PhaseTable) (r : Result Agreement SearchFault) → OnePhase t → Searches toggles toggles_marks t 65535 r → Finds t 5 r
  pub spent : (t : PhaseTable) (r : Result Agreement SearchFault) → OnePhase t → Searches toggles toggles_marks t 4 r → Refuses 26 4 r
