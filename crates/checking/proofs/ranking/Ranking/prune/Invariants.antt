use Rattle.checking.specs.Snapshots.{played}
use Rattle.checking.proofs.PassLaws.{Pruned}
use Rattle.checking.proofs.ranking.Ranking.prune.Given as goal

abbrev pub invariant-loop-state : goal.invariant-loop-state
invariant-loop-state l = Pruned (played l.seat) l.fn.self l.self l.phase l.state l.pruned

abbrev pub invariant-loop-phase : goal.invariant-loop-phase
invariant-loop-phase l = Pruned (played l.seat) l.fn.self l.self l.phase 0 l.pruned
