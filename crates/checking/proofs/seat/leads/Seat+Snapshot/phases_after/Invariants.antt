use Rattle.checking.specs.Snapshots.{played}
use Rattle.checking.proofs.NearLaws.{AfterBefore}
use Rattle.checking.proofs.seat.leads.Seat+Snapshot.phases_after.Given as goal

abbrev pub invariant-loop-own : goal.invariant-loop-own
invariant-loop-own l = AfterBefore (played l.self) l.phase l.after l.own 0

abbrev pub invariant-loop-partner : goal.invariant-loop-partner
invariant-loop-partner l = AfterBefore (played l.self) l.phase l.after l.own l.partner
