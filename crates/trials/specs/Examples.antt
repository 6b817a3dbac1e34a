-- All shown examples together, each told from the definitions alone.
use Rattle.trials.specs.Toggles.{Met}
use Rattle.trials.specs.Shown.{WatchedToggle, Signing}
use Rattle.trials.specs.Checks.{Checking}
use Rattle.trials.specs.Solutions.{Solving}
use Rattle.trials.specs.Searches.{Searching}
use Rattle.trials.specs.Replays.{Replaying}
use Rattle.trials.specs.Witness.{Witness}

-- the whole of them
pub record Examples : Type 0 where
  -- the toggle watched by its rule sheet
  pub watched_toggle : WatchedToggle
  -- signing on one phase with two signals each way
  pub signing : Signing
  -- two toggles can meet, on signal 1 of both sides and on both signals
  pub one_signal : Met 2
  pub both_signals : Met 3
  -- checking three records of the watched toggle
  pub checking : Checking
  -- solving it under one signal, and under both
  pub solving : Solving
  -- searching for a deal of two of them
  pub searching : Searching
  -- offers and reports to a cell of two of them
  pub replaying : Replaying
  -- a bay of two phases that runs from offer to offer and meets a goal
  pub witness : Witness
