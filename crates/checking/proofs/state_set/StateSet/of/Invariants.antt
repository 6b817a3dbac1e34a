use Rattle.checking.proofs.SnapshotLaws.{Gathered}
use Rattle.checking.proofs.state_set.StateSet.of.Given as goal

abbrev pub invariant-loop-state : goal.invariant-loop-state
invariant-loop-state g l = Gathered (goal.F-post g l.test) l.set l.state
