use Rattle.std.proofs.Common.{◌<◌, length, length-set, arith}
use Rattle.checking.specs.Snapshots.{played}
use Rattle.checking.proofs.PlayLaws.{bounded}
use Rattle.checking.proofs.NearLaws.{turns_next}
use Rattle.checking.proofs.seat.leads.Seat+Snapshot.turns.Goals as goal

pub loop-phase-preserved : goal.loop-phase-preserved
loop-phase-preserved c =
    let y = c.args.self.now in
    let i = c.loop-phase.invariant in
    let few = (bounded y).few_phases in
    let long : c.loop-phase.phase < length c.loop-phase.turns = omega (arith, i.0, few, c.phases-phase-end.ensures, c.loop-phase-test.true) in
    (simp length-set i.0, rw c.from.ensures (turns_next (played y) c.loop-phase.turns c.loop-phase.phase i.1 long c.phases_after.result c.phases_after.ensures))
