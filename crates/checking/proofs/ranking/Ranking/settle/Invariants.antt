use Rattle.checking.specs.Snapshots.{played}
use Rattle.checking.specs.Solving.{Least, ranks_in, zeros}
use Rattle.checking.proofs.ranking.Ranking.settle.Given as goal

abbrev pub invariant-loop-turns : goal.invariant-loop-turns
invariant-loop-turns l = Least (played l.seat) (ranks_in (played l.seat) l.self)

abbrev pub decreases-loop-turns : goal.decreases-loop-turns
decreases-loop-turns l = zeros l.self
