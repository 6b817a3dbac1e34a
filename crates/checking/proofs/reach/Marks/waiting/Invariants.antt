use Rattle.std.proofs.Common.{◌+◌, ◌*◌}
use Rattle.checking.proofs.MarkLaws.{IdleBelow}
use Rattle.checking.proofs.reach.Marks.waiting.Given as goal

abbrev pub invariant-loop-phase : goal.invariant-loop-phase
invariant-loop-phase g l = IdleBelow l.self.bytes.now (l.state * l.self.seat.table.now.sizes.phases + l.phase)

abbrev pub invariant-loop-state : goal.invariant-loop-state
invariant-loop-state g l = IdleBelow l.self.bytes.now (l.state * l.self.seat.table.now.sizes.phases)
