use Rattle.std.proofs.Common.{◌+◌, ◌*◌}
use Rattle.checking.specs.Snapshots.{played}
use Rattle.checking.proofs.WriteLaws.{Writing}
use Rattle.checking.proofs.ranking.Ranking.write.Given as goal

abbrev pub invariant-loop-state : goal.invariant-loop-state
invariant-loop-state l = Writing (played l.seat) l.self l.buffer (l.state * (played l.seat).phases)

abbrev pub invariant-loop-phase : goal.invariant-loop-phase
invariant-loop-phase l = Writing (played l.seat) l.self l.buffer (l.state * (played l.seat).phases + l.phase)
