use Rattle.std.proofs.Common.{◌≡◌, ◌-◌, length, None}
use Rattle.recordings.specs.Marks.{Before, events}
use Rattle.recordings.proofs.recording.Calls.read.Given as goal

abbrev pub invariant-loop-at : goal.invariant-loop-at
invariant-loop-at l = Before l.bytes l.initial.at l.calls.marks.items (events l.calls) l.at × (l.calls.damage ≡ None)

abbrev pub decreases-loop-at : goal.decreases-loop-at
decreases-loop-at l = length l.bytes - l.at
