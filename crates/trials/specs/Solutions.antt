-- Solving for a side of a bay of two watched toggles, on one phase with two signals each way, into a buffer of a record's length.
use Rattle.std.specs.Prelude.{◌≡◌, ℕ, ◌<◌, List, length, Ok, Err, Result}
use Rattle.std.specs.Result.{result_map_both}
use Rattle.reading.specs.declared.phase_table.PhaseTable.{PhaseTable}
use Rattle.games.specs.declared.deal.Deal.{Deal}
use Rattle.checking.specs.declared.faults.SolveFault.{SolveFault}
use Rattle.checking.specs.Solutions.{solve_number, Solves}
use Rattle.trials.specs.Toggles.{watched_toggle, toggle_marks, ranked, Meets}

-- an answer, by the bound or the refusal's number
abbrev pub told : Result ℕ SolveFault → Result ℕ ℕ
told = result_map_both (λ b. b) solve_number

-- whatever solving answers for either side under promises and reliances of a set of signals, and makes of a buffer, is this
abbrev pub Answers : ℕ → (List ℕ → List ℕ) → Result ℕ ℕ → Type 0
Answers set holds answer =
    (t : PhaseTable) (d : Deal) (side : ℕ) (old new : List ℕ) (r : Result ℕ SolveFault) → Meets set t d → side < 2 → length old ≡ 16
    → Solves watched_toggle toggle_marks t d side old new r → (told r ≡ answer) × (new ≡ holds old)

-- under promises and reliances of signal 1 the bound is 2, and the buffer holds the record 4 0 1 2, 1 1 1 1, 1 0 0 0 2 0 0 0; under
-- promises and reliances of both signals it is refused with 23, and the buffer is as it was
pub record Solving : Type 0 where
  pub solved : Answers 2 (λ old. ranked 1 0 2 0) (Ok 2)
  pub none : Answers 3 (λ old. old) (Err 23)
