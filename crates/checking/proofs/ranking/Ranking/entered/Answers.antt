use Rattle.std.proofs.Common.{length, length-set, ◌<◌, arith}
use Rattle.checking.specs.Snapshots.{played}
use Rattle.checking.proofs.PlayLaws.{bounded}
use Rattle.checking.proofs.NearLaws.{entered_next}
use Rattle.checking.proofs.ranking.Ranking.entered.Goals as goal

pub loop-phase-preserved : goal.loop-phase-preserved
loop-phase-preserved c =
    let y = c.args.seat.now in
    let i = c.loop-phase.invariant in
    let e = c.from-place.ensures in
    let few = (bounded y).few_phases in
    let long : c.loop-phase.phase < length c.loop-phase.sources = omega (arith, i.0, few, c.phases-phase-end.ensures, c.loop-phase-test.true) in (
      simp length-set i.0,
      rw e (entered_next (played y) c.args.earlier.now c.args.self.now.ranked c.loop-phase.sources c.loop-phase.phase i.1 long c.minus.result c.sources_of.result (rw e at c.minus.ensures) c.sources_of.ensures),
    )
