use Rattle.std.proofs.Common.{◌≡◌, length}
use Rattle.checking.specs.Snapshots.{played}
use Rattle.checking.proofs.NearLaws.{EnteredBelow}
use Rattle.checking.proofs.ranking.Ranking.entered.Given as goal

abbrev pub invariant-loop-phase : goal.invariant-loop-phase
invariant-loop-phase l = (length l.sources ≡ 8) × EnteredBelow (played l.seat) l.earlier l.self.ranked l.sources l.phase
