use Rattle.std.proofs.Common.{refl}
use Rattle.trials.proofs.Showing.{shown, signing_shown, checking_shown}
use Rattle.trials.proofs.SolvingShown.{solving_shown}
use Rattle.trials.proofs.SearchingShown.{searching_shown}
use Rattle.trials.proofs.ReplayingShown.{replaying_shown}
use Rattle.trials.proofs.Meeting.{met}
use Rattle.trials.proofs.Witnessed.{witnessed}
use Rattle.trials.proofs.shown.examples.Goals as goal

pub returns : goal.returns
returns c = record {
  watched_toggle = shown;
  signing = signing_shown;
  one_signal = met 2 refl;
  both_signals = met 3 refl;
  checking = checking_shown;
  solving = solving_shown;
  searching = searching_shown;
  replaying = replaying_shown;
  witness = witnessed;
}
