use Rattle.std.proofs.Common.{◌≡◌}
use Rattle.checking.specs.Snapshots.{played}
use Rattle.checking.specs.Solving.{zeros, Layering}
use Rattle.checking.proofs.ranking.Ranking.add_layer.Given as goal

abbrev pub invariant-loop-phase : goal.invariant-loop-phase
invariant-loop-phase l = Layering (played l.seat) l.self l.next l.depth l.phase 0 × (l.self.ranked ≡ l.fn.self.ranked) × (zeros l.self ≡ zeros l.fn.self)
