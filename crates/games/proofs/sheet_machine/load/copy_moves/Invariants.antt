use Rattle.std.proofs.Common.{◌≡◌, map, vec_items, vec_len, vec_capacity}
use Rattle.std.specs.List.{range_with_len}
use Rattle.reading.specs.MachineSheets.{sheet_of}
use Rattle.games.specs.Listings.{move_at}
use Rattle.games.proofs.sheet_machine.load.copy_moves.Given as goal

abbrev pub invariant-loop-i : goal.invariant-loop-i
invariant-loop-i l =
    (vec_items l.moves ≡ map (move_at (sheet_of l.sheet)) (range_with_len 0 l.i))
    × (vec_len l.moves ≡ l.i) × (vec_capacity l.moves ≡ vec_capacity l.initial.moves)
