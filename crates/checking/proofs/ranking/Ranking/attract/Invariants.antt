use Rattle.std.proofs.Common.{◌≡◌, ◌-◌}
use Rattle.checking.specs.Snapshots.{played}
use Rattle.checking.specs.Solving.{ranks_in, zeros, Tracks, Attracted}
use Rattle.checking.proofs.ranking.Ranking.attract.Given as goal

abbrev pub invariant-loop-depth : goal.invariant-loop-depth
invariant-loop-depth l = Attracted (played l.seat) l.self l.depth × Tracks (played l.seat) l.earlier (ranks_in (played l.seat) l.self) (l.depth - 1) × (zeros l.self ≡ zeros l.fn.self)
