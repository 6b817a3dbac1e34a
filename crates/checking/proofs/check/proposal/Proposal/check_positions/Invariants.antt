use Rattle.std.proofs.Common.{◌≡◌, None}
use Rattle.reading.specs.Firsts.{first_below}
use Rattle.checking.specs.Arenas.{playing}
use Rattle.checking.specs.Checks.{put, position_fault}
use Rattle.checking.proofs.check.proposal.Proposal.check_positions.Given as goal

abbrev pub invariant-loop-state : goal.invariant-loop-state
invariant-loop-state g l = first_below l.state (λ s. first_below l.self.seat.table.now.sizes.phases (position_fault (playing g.G.Machine.meaning g.G.Game.marks l.self.seat) (put l.self) s)) ≡ None

abbrev pub invariant-loop-phase : goal.invariant-loop-phase
invariant-loop-phase g l = (first_below l.state (λ s. first_below l.self.seat.table.now.sizes.phases (position_fault (playing g.G.Machine.meaning g.G.Game.marks l.self.seat) (put l.self) s)) ≡ None) × (first_below l.phase (position_fault (playing g.G.Machine.meaning g.G.Game.marks l.self.seat) (put l.self) l.state) ≡ None)
