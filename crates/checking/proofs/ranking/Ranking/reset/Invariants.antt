use Rattle.std.proofs.Common.{◌≤◌}
use Rattle.checking.specs.Snapshots.{played}
use Rattle.checking.specs.Solving.{zeros, Resetting}
use Rattle.checking.proofs.PassLaws.{KeptIn}
use Rattle.checking.proofs.ranking.Ranking.reset.Given as goal

abbrev pub invariant-loop-state : goal.invariant-loop-state
invariant-loop-state l =
    Resetting (played l.seat) l.self l.phase l.state
    × KeptIn (played l.seat) l.self l.phase l.set l.state
    × (zeros l.self ≤ zeros l.fn.self)

abbrev pub invariant-loop-phase : goal.invariant-loop-phase
invariant-loop-phase l = Resetting (played l.seat) l.self l.phase 0 × (zeros l.self ≤ zeros l.fn.self)
