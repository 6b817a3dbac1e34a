use Rattle.std.proofs.Common.{◌≡◌, None}
use Rattle.reading.specs.Firsts.{first_below}
use Rattle.checking.specs.Arenas.{playing}
use Rattle.checking.specs.Checks.{put, partner_fault}
use Rattle.checking.proofs.check.proposal.Proposal.check_partners.Given as goal

abbrev pub invariant-loop-partner : goal.invariant-loop-partner
invariant-loop-partner g l = first_below l.partner (partner_fault (playing g.G.Machine.meaning g.G.Game.marks l.self.seat) (put l.self) l.at.state l.at.phase) ≡ None
