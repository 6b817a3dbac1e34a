use Rattle.std.proofs.Common.{◌≡◌, ◌≤◌, vec_items, vec_capacity}
use Rattle.checking.proofs.BlockLaws.{blocks}
use Rattle.checking.proofs.search.promises.add_phase.Given as goal

abbrev pub invariant-loop-set : goal.invariant-loop-set
invariant-loop-set l =
    (vec_items l.numbers ≡ blocks l.unit (vec_items l.fn.numbers) l.set) × (1 ≤ l.set)
    × (vec_capacity l.numbers ≡ vec_capacity l.initial.numbers)
