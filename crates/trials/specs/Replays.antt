-- Six calls to a cell of two watched toggles, on one phase with two signals each way, under a deal on signal 1 of both sides.
use Rattle.std.specs.Prelude.{◌≡◌, ℕ, List, [], ◌∷◌, length, map, Ok, Err}
use Rattle.reading.specs.Sides.{both}
use Rattle.reading.specs.declared.phase_table.PhaseTable.{PhaseTable}
use Rattle.games.specs.declared.deal.Deal.{Deal}
use Rattle.cell.specs.declared.calls.Answer.{Answer}
use Rattle.cell.specs.declared.calls.Question.TheVariants as question
use Rattle.cell.specs.Faults.{bare}
use Rattle.cell.specs.Logs.{Games, Event, Told, offered, reported, asked, to_offer, to_report, ranks_shown, first, all_answers}
use Rattle.cell.specs.Cells.{told, Fills}
use Rattle.trials.specs.Toggles.{ranked, Meets}
use Rattle.trials.specs.Searches.{toggles, toggles_marks}

-- two watched toggles, one for each side
abbrev pub two_toggles : Games
two_toggles = record { machines = toggles; marks = toggles_marks }

-- an offer of the same record to both sides
abbrev pub offer : PhaseTable → Deal → List ℕ → Event
offer t d xs = offered (record { table = t; deal = d; records = both xs xs })

-- ranks 5 0 6 0 are offered, then the solved record, then 5 0 6 0 again; the toggles are said to be in 0 and 3, then both in 3; at last
-- the ranks are asked
abbrev pub calls : PhaseTable → Deal → List Event
calls t d =
    offer t d (ranked 5 0 6 0)
    ∷ offer t d (ranked 1 0 2 0)
    ∷ offer t d (ranked 5 0 6 0)
    ∷ reported (both 0 3)
    ∷ reported (both 3 3)
    ∷ asked question.Ranks
    ∷ []

-- accepted with bounds 6 and 6, then with 2 and 2, then refused with 31 of side 0; 33 of side 0, then signals 1 and 1; ranks 0 and 0
abbrev pub answered : List Told
answered =
    to_offer (Ok (both 6 6))
    ∷ to_offer (Ok (both 2 2))
    ∷ to_offer (Err (bare 31 0))
    ∷ to_report (Err (bare 33 0))
    ∷ to_report (Ok (both 1 1))
    ∷ ranks_shown (both 0 0)
    ∷ []

-- so the log answers, and so does any cell of two toggles that the calls are put to, with room for six answers
pub record Replaying : Type 0 where
  pub by_log : (t : PhaseTable) (d : Deal) → Meets 2 t d → all_answers two_toggles (calls t d) (first two_toggles) ≡ answered
  pub by_cell : (t : PhaseTable) (d : Deal) (old new : List Answer) (count : ℕ) → Meets 2 t d → length old ≡ 6
      → Fills two_toggles (calls t d) old new count → map told new ≡ answered
