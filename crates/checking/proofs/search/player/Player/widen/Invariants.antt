use Rattle.std.proofs.Common.{◌<◌, ◌≡◌, ◌≤◌}
use Rattle.checking.specs.Verdicts.{Knows}
use Rattle.checking.proofs.search.player.Player.widen.Given as goal

abbrev pub invariant-loop : goal.invariant-loop
invariant-loop l =
    Knows l.candidates.table.now l.side l.self × (l.self.snapshot ≡ l.fn.self.snapshot)
    × (0 < l.block) × (l.block ≤ 65535) × (0 < l.sets) × (l.sets ≤ 15)
