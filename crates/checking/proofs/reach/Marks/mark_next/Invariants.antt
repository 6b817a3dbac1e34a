use Rattle.std.proofs.Common.{◌≡◌}
use Rattle.checking.specs.Marking.{Marked, ReachedAt}
use Rattle.checking.proofs.MarkLaws.{FollowedBefore}
use Rattle.checking.proofs.reach.Marks.mark_next.Given as goal

abbrev pub invariant-loop-partner : goal.invariant-loop-partner
invariant-loop-partner g l =
    (l.self.seat ≡ l.seat) × (l.self.bytes.ghost_name ≡ l.fn.self.bytes.ghost_name)
    × Marked (ReachedAt (g.G.Machine.meaning l.seat.game.now) l.seat.table.now l.seat.deal.now l.seat.side) l.fn.self.bytes.now l.self.bytes.now
    × FollowedBefore (g.G.Machine.meaning l.seat.game.now) l.seat.table.now l.seat.deal.now l.seat.side l.self.bytes.now l.at.state l.at.phase l.own l.partner

abbrev pub invariant-loop-own : goal.invariant-loop-own
invariant-loop-own g l =
    (l.self.seat ≡ l.seat) × (l.self.bytes.ghost_name ≡ l.fn.self.bytes.ghost_name)
    × Marked (ReachedAt (g.G.Machine.meaning l.seat.game.now) l.seat.table.now l.seat.deal.now l.seat.side) l.fn.self.bytes.now l.self.bytes.now
    × FollowedBefore (g.G.Machine.meaning l.seat.game.now) l.seat.table.now l.seat.deal.now l.seat.side l.self.bytes.now l.at.state l.at.phase l.own 0
