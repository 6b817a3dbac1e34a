-- The largest kept rank of a record is the bound of its plan.
use Rattle.std.proofs.Common.{◌≡◌, ℕ, ◌+◌, ◌*◌, ◌/◌, ◌%◌, ◌<◌, ◌≤◌, true, false, ap, ◌∙◌, inl, inr, mul_comm, arith}
use Rattle.std.proofs.lemmas.Bool.{cases_Bool}
use Rattle.std.proofs.lemmas.Bool.Decides.{nat_tests}
use Rattle.std.proofs.lemmas.Nat.{mul-add-lt, div_below, mod_below, div-add-mod'}
use Rattle.reading.specs.Records.{Parts, rank_at, kept_rank, bound_of}
use Rattle.reading.proofs.FirstLaws.{highest_over, highest_at}
use Rattle.checking.specs.Controllers.{plan_of, Kept, Bound}
use Rattle.checking.specs.Checks.{keeps}
use Rattle.checking.proofs.ControllerLaws.{kept_from, keeps_from}

module _ (r : Parts) where
  -- a kept position is inside the record
  pub kept_inside : (s p : ℕ) → Kept (plan_of r) s p → (s < r.states) × (p < r.phases)
  kept_inside s p k = (grind (arith, nat_tests), grind (arith, nat_tests))

  -- a position and its place
  rank_in : (s p : ℕ) → s < r.states → p < r.phases → keeps (plan_of r) s p ≡ true → kept_rank r (s * r.phases + p) ≡ rank_at r s p
  rank_in s p hs hp k = grind (arith, nat_tests)

  absent : (s p : ℕ) → s < r.states → p < r.phases → keeps (plan_of r) s p ≡ false → kept_rank r (s * r.phases + p) ≡ 0
  absent s p hs hp k = grind (arith, nat_tests)

  place_in : (s p : ℕ) → s < r.states → p < r.phases → s * r.phases + p < r.states * r.phases
  place_in s p hs hp = rw (mul_comm r.states r.phases) (mul-add-lt s r.phases p r.states hs hp)

  pub bound_above : (s p : ℕ) → Kept (plan_of r) s p → rank_at r s p ≤ bound_of r
  bound_above s p k =
      let i = kept_inside s p k in
      omega (arith, rank_in s p i.0 i.1 (keeps_from (plan_of r) s p k), highest_over (r.states * r.phases) (kept_rank r) (s * r.phases + p) (place_in s p i.0 i.1))

  -- the place with the largest rank is kept, or all kept ranks are 0
  pub bound_is : (s p : ℕ) → Kept (plan_of r) s p → Bound (plan_of r) (bound_of r)
  bound_is s p k = record {
    above = bound_above;
    met = elim (cases_Bool (keeps (plan_of r) s' p')) [
      | inl t ↦ (s', p', kept_from (plan_of r) s' p' t, omega (arith, rank_in s' p' hs hp t, e))
      | inr f ↦ (s, p, k, omega (arith, bound_above s p k, absent s' p' hs hp f, e))
    ];
  }
    where
      inside : (s < r.states) × (p < r.phases)
      inside = kept_inside s p k

      highest : (i : ℕ) × (i < r.states * r.phases) × (kept_rank r i ≡ bound_of r)
      highest = highest_at (r.states * r.phases) (kept_rank r) (omega (arith, place_in s p inside.0 inside.1))

      s' : ℕ
      s' = highest.0 / r.phases

      p' : ℕ
      p' = highest.0 % r.phases

      hs : s' < r.states
      hs = div_below highest.0 r.phases r.states (omega (arith, inside.1)) highest.1

      hp : p' < r.phases
      hp = mod_below highest.0 r.phases (omega (arith, inside.1))

      e : kept_rank r (s' * r.phases + p') ≡ bound_of r
      e = ap (kept_rank r) (div-add-mod' highest.0 r.phases) ∙ highest.2
