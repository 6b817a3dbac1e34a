use Rattle.checking.proofs.BlockLaws.{Raised}
use Rattle.std.proofs.Common.{◌≡◌, vec_items, vec_len, vec_capacity}
use Rattle.checking.proofs.search.promises.raise.Given as goal

abbrev pub invariant-loop-place : goal.invariant-loop-place
invariant-loop-place l =
    Raised l.unit (vec_items l.initial.numbers) (vec_items l.numbers) l.place
    × (vec_len l.numbers ≡ vec_len l.initial.numbers) × (vec_capacity l.numbers ≡ vec_capacity l.initial.numbers)
