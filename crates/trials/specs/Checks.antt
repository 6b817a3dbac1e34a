-- The check of three records for a side of a bay of two watched toggles, on one phase with two signals each way, under promises and
-- reliances of signal 1.
use Rattle.std.specs.Prelude.{◌≡◌, ℕ, ◌<◌, List, Ok, Err, Result}
use Rattle.reading.specs.declared.phase_table.PhaseTable.{PhaseTable}
use Rattle.games.specs.declared.deal.Deal.{Deal}
use Rattle.checking.specs.Faults.{Refusal, refusal}
use Rattle.checking.specs.Checks.{check_answer}
use Rattle.trials.specs.Toggles.{watched_toggle, toggle_marks, ranked, Meets}

-- whatever the table and the deal, a check of a record for either side answers so
abbrev pub Answers : List ℕ → Result ℕ Refusal → Type 0
Answers xs r = (t : PhaseTable) (d : Deal) (side : ℕ) → Meets 2 t d → side < 2 → check_answer watched_toggle toggle_marks t d side xs ≡ r

-- ranks 5 0 6 0 pass with bound 6; ranks 0 0 2 0 are refused with 16 at state 0; ranks 1 0 1 0 with 19 at state 2, signal 1, next state 0
pub record Checking : Type 0 where
  pub passes : Answers (ranked 5 0 6 0) (Ok 6)
  pub rank_zero : Answers (ranked 0 0 2 0) (Err (refusal 16 0 0 65535 65535))
  pub not_lower : Answers (ranked 1 0 1 0) (Err (refusal 19 2 0 1 0))
