use Rattle.std.proofs.Common.{◌≡◌, refl, arith}
use Rattle.checking.specs.Snapshots.{played}
use Rattle.checking.specs.Solving.{ranks_in}
use Rattle.checking.proofs.PlayLaws.{bounded}
use Rattle.checking.proofs.NearLaws.{tracks_none}
use Rattle.checking.proofs.AttractorLaws.{layer_stops}
use Rattle.checking.proofs.PassLaws.{tracks_top}
use Rattle.checking.proofs.ranking.Ranking.attract.Goals as goal

pub loop-depth-init : goal.loop-depth-init
loop-depth-init c = (c.requires.before, tracks_none (played c.args.seat.now) (bounded c.args.seat.now) c.empty-earlier.result c.empty-earlier.ensures (ranks_in (played c.args.seat.now) c.args.self.now), refl)

pub returns-then-not-add_layer-clause-after : goal.returns-then-not-add_layer-clause-after
returns-then-not-add_layer-clause-after c =
    let s = c.add_layer.ensures.stops c.if-not-add_layer.true in
    record {
      layers = layer_stops (played c.args.seat.now) _ _ c.loop-depth.depth (omega arith) (omega arith) s;
      tracks = tracks_top (played c.args.seat.now) _ _ _ 65535 (omega arith) (λ t q h. omega (arith, s.low t q h)) c.add_layer.ensures.after.tracks;
    }

pub returns-clause-after : goal.returns-clause-after
returns-clause-after c = let e : c.loop-depth.depth ≡ 65535 = omega arith in rw e at c.loop-depth.invariant.0
