use Rattle.std.proofs.Common.{◌≡◌}
use Rattle.checking.specs.Verdicts.{Knows}
use Rattle.checking.proofs.search.player.Player.note_row.Given as goal

abbrev pub invariant-loop-column : goal.invariant-loop-column
invariant-loop-column l = Knows l.candidates.table.now l.side l.self × (l.self.snapshot ≡ l.fn.self.snapshot)
