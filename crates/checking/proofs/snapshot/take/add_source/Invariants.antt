use Rattle.std.proofs.Common.{◌≡◌, ℕ, true, ◌-◌, get_or, vec_items, vec_len}
use Rattle.checking.specs.StateSets.{member, nothing}
use Rattle.checking.proofs.SourceLaws.{Walked}
use Rattle.checking.proofs.snapshot.take.add_source.Given as goal

abbrev pub invariant-loop-target : goal.invariant-loop-target
invariant-loop-target l =
    (vec_len l.sources ≡ 256)
    × ((t s : ℕ) → member (get_or (vec_items l.fn.sources) t nothing) s ≡ true → member (get_or (vec_items l.sources) t nothing) s ≡ true)
    × Walked (member l.next) (λ t. member (get_or (vec_items l.sources) t nothing) l.state ≡ true) l.from

abbrev pub decreases-loop-target : goal.decreases-loop-target
decreases-loop-target l = 256 - l.from
