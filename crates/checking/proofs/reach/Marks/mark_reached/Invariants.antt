use Rattle.std.proofs.Common.{◌≡◌}
use Rattle.checking.specs.Marking.{all_left, Marking}
use Rattle.checking.proofs.reach.Marks.mark_reached.Given as goal

abbrev pub invariant-loop-at : goal.invariant-loop-at
invariant-loop-at g l =
    (l.self.seat ≡ l.seat) × (l.self.bytes.ghost_name ≡ l.fn.self.bytes.ghost_name)
    × Marking (g.G.Machine.meaning l.seat.game.now) l.seat.table.now l.seat.deal.now l.seat.side l.self.bytes.now

abbrev pub decreases-loop-at : goal.decreases-loop-at
decreases-loop-at g l = all_left l.self.bytes.now
