use Rattle.std.proofs.Common.{◌≡◌, ◌+◌, ◌++◌, map, take, vec_items, vec_len, vec_capacity}
use Rattle.checking.proofs.search.promises.append_more.Given as goal

abbrev pub invariant-loop-place : goal.invariant-loop-place
invariant-loop-place l =
    (vec_items l.numbers ≡ vec_items l.initial.numbers ++ map (λ x. l.more + x) (take l.place (vec_items l.initial.numbers)))
    × (vec_len l.numbers ≡ vec_len l.initial.numbers + l.place) × (vec_capacity l.numbers ≡ vec_capacity l.initial.numbers)
