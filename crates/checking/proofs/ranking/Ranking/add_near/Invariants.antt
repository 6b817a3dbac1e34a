use Rattle.std.proofs.Common.{◌≡◌, ◌-◌}
use Rattle.checking.specs.Snapshots.{played}
use Rattle.checking.specs.Solving.{zeros, Layering}
use Rattle.checking.proofs.ranking.Ranking.add_near.Given as goal

abbrev pub invariant-loop-state : goal.invariant-loop-state
invariant-loop-state l = Layering (played l.seat) l.self l.next l.depth l.phase l.from × (l.self.ranked ≡ l.fn.self.ranked) × (zeros l.self ≡ zeros l.fn.self)

abbrev pub decreases-loop-state : goal.decreases-loop-state
decreases-loop-state l = 256 - l.from
