use Rattle.std.proofs.Common.{◌≡◌, length}
use Rattle.checking.specs.Snapshots.{played}
use Rattle.checking.proofs.NearLaws.{TurnsBelow}
use Rattle.checking.proofs.seat.leads.Seat+Snapshot.turns.Given as goal

abbrev pub invariant-loop-phase : goal.invariant-loop-phase
invariant-loop-phase l = (length l.turns ≡ 8) × TurnsBelow (played l.self) l.turns l.phase
