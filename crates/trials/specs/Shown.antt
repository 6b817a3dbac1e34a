-- Examples that are shown from the definitions.
use Rattle.std.specs.Prelude.{◌≡◌, ℕ, true, false, Some, None}
use Rattle.reading.specs.Sides.{both}
use Rattle.games.specs.Machines.{goal_in}
use Rattle.games.specs.declared.deal.Terms.{Terms}
use Rattle.games.specs.WatchedSheets.{sheets_fault}
use Rattle.games.specs.Signings.{signing_fault}
use Rattle.trials.specs.Toggles.{toggle, rule, watched_toggle, toggle_marks}

-- both sheets of the toggle are accepted; watched it has 4 states, start 0 and goals 1 and 3; under signals 1 and 1 state 0 moves to 3 only
pub record WatchedToggle : Type 0 where
  pub accepted : sheets_fault toggle rule ≡ None
  pub states : watched_toggle.states ≡ 4
  pub start : watched_toggle.start ≡ 0
  pub goals : (goal_in watched_toggle toggle_marks 1 ≡ true) × (goal_in watched_toggle toggle_marks 3 ≡ true)
  pub no_goals : (goal_in watched_toggle toggle_marks 0 ≡ false) × (goal_in watched_toggle toggle_marks 2 ≡ false)
  pub moves : watched_toggle.move 0 1 1 3 ≡ true
  pub only : (t : ℕ) → watched_toggle.move 0 1 1 t ≡ true → t ≡ 3

-- a side's terms: a promise and a reliance
abbrev pub terms : ℕ → ℕ → Terms
terms promise reliance = record { promise = promise; reliance = reliance }

-- one phase, two signals each way: promise 2 with reliance 2 on both sides signs; promise 3 with reliance 2 is refused with 21, phase 0,
-- side 0
pub record Signing : Type 0 where
  pub signs : signing_fault 1 2 2 (both (terms 2 2) (terms 2 2)) ≡ None
  pub too_far : signing_fault 1 2 2 (both (terms 3 2) (terms 3 2)) ≡ Some (record { number = 21; phase = 0; side = 0 })
