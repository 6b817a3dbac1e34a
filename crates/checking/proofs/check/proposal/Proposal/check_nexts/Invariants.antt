use Rattle.std.proofs.Common.{◌≡◌, None}
use Rattle.reading.specs.Firsts.{first_below}
use Rattle.checking.specs.Arenas.{playing}
use Rattle.checking.specs.Checks.{put, next_fault}
use Rattle.checking.proofs.check.proposal.Proposal.check_nexts.Given as goal

abbrev pub invariant-loop-next : goal.invariant-loop-next
invariant-loop-next g l = first_below l.next (next_fault (playing g.G.Machine.meaning g.G.Game.marks l.self.seat) (put l.self) l.at.state l.at.phase l.partner) ≡ None
