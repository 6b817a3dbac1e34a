use Rattle.std.proofs.Common.{◌≡◌}
use Rattle.checking.specs.Verdicts.{Knows}
use Rattle.checking.proofs.search.player.Player.note.Given as goal

abbrev pub invariant-loop-row : goal.invariant-loop-row
invariant-loop-row l = Knows l.candidates.table.now l.side l.self × (l.self.snapshot ≡ l.fn.self.snapshot)
