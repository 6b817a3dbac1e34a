use Rattle.std.proofs.Common.{◌-◌}
use Rattle.checking.specs.StateSets.{member}
use Rattle.checking.proofs.SourceLaws.{Walked, Gathers}
use Rattle.checking.proofs.state_set.StateSet.union_at.Given as goal

abbrev pub invariant-loop-place : goal.invariant-loop-place
invariant-loop-place l = Walked (member l.self) (Gathers l.sets l.all) l.from

abbrev pub decreases-loop-place : goal.decreases-loop-place
decreases-loop-place l = 256 - l.from
