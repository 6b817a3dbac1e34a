use Rattle.std.proofs.Common.{◌≡◌}
use Rattle.checking.specs.Marking.{Marked, ReachedAt}
use Rattle.checking.proofs.MarkLaws.{MovedBelow}
use Rattle.checking.proofs.reach.Marks.mark_moves.Given as goal

abbrev pub invariant-loop-state : goal.invariant-loop-state
invariant-loop-state g l =
    (l.self.seat ≡ l.seat) × (l.self.bytes.ghost_name ≡ l.fn.self.bytes.ghost_name)
    × Marked (ReachedAt (g.G.Machine.meaning l.seat.game.now) l.seat.table.now l.seat.deal.now l.seat.side) l.fn.self.bytes.now l.self.bytes.now
    × MovedBelow (g.G.Machine.meaning l.seat.game.now) l.seat.table.now l.self.bytes.now l.at.state l.own l.partner l.phase l.state
