-- One side of a running cell: what holds of its position, and that moves and new records keep it.
use Rattle.std.proofs.Common.{◌≡◌, ℕ, ◌+◌, ◌<◌, ◌≤◌, max, Bool, true, false, ◌==◌, ◌&&◌, subst, sym, refl, inl, inr, arith}
use Rattle.std.proofs.lemmas.Bool.{both_ways, not-true, eq-eqb, and_from, and_parts, eqb-true, not_from_false, cases_lt}
use Rattle.reading.proofs.FirstLaws.{not_true}
use Rattle.checking.specs.Arenas.{Arena}
use Rattle.checking.specs.Controllers.{Plan, Kept, Controller, Bound, Serves}
use Rattle.checking.specs.Checks.{keeps}
use Rattle.cell.specs.Logs.{waited}
use Rattle.cell.specs.Running.{Runs}

pub kept_from : (c : Plan) (s p : ℕ) → keeps c s p ≡ true → Kept c s p
kept_from c s p h i = both_ways (c.choice s p == 255 && c.rank s p == 65535) (not-true _ h) (and_from _ _ (eq-eqb _ _ i.0) (eq-eqb _ _ i.1))

pub kept_to : (c : Plan) (s p : ℕ) → Kept c s p → keeps c s p ≡ true
kept_to c s p k = not_from_false _ (none (c.choice s p == 255 && c.rank s p == 65535) (λ e. let h = and_parts _ _ e in k (eqb-true _ _ h.0, eqb-true _ _ h.1)))
  where
    none : (b : Bool) → (b ≡ true → ⊥) → b ≡ false
    none true h = absurd (h refl)
    none false h = refl

still_due : (from to : Bool) (w r r' m : ℕ) → (from ≡ true → w ≡ 0) → (from ≡ false → r' < r) → r' ≤ m → w + r ≤ m + 1 → waited to w + r' ≤ m + 1
still_due true true w r r' m fresh falls low due = omega arith
still_due false true w r r' m fresh falls low due = omega arith
still_due true false w r r' m fresh falls low due = omega (arith, fresh refl)
still_due false false w r r' m fresh falls low due = omega (arith, falls refl)

no_wait : (goal : Bool) (w : ℕ) → goal ≡ true → waited goal w ≡ 0
no_wait true w e = refl
no_wait false w e = let z : ◌≡◌ {A = ℕ} 0 1 = cc in absurd (omega arith)

module _ (a : Arena) (c : Plan) where
  pub serves : (s p w m : ℕ) → Runs a c s p w m → Serves a c s p (c.choice s p)
  serves s p w m h = h.controller.rival.serves s p h.here

  -- a wait is never above the largest bound: at a goal it is 0, elsewhere the rank is at least 1
  pub patient : (s p w m : ℕ) → Runs a c s p w m → w ≤ m
  patient s p w m h = waits (a.goal s) h.fresh (λ e. h.controller.rival.goals_at_zero s p h.here e) h.due
    where
      waits : (goal : Bool) → (goal ≡ true → w ≡ 0) → (c.rank s p ≡ 0 → goal ≡ true) → w + c.rank s p ≤ m + 1 → w ≤ m
      waits true fresh zero_rank due = omega (arith, fresh refl)
      waits false fresh zero_rank due = elim (cases_lt 0 (c.rank s p)) [ inl l ↦ omega arith | inr l ↦ absurd (not_true (zero_rank (omega arith))) ]

  pub moves : (s p w m b t : ℕ) → Runs a c s p w m → a.relied p b ≡ true → a.move s (c.choice s p) b t ≡ true → Runs a c t (a.follow p (c.choice s p) b) (waited (a.goal t) w) m
  moves s p w m b t h relied can =
      let v = serves s p w m h in
      let kept = v.stays b t relied can in
      record {
        controller = h.controller;
        largest = h.largest;
        here = kept;
        due = still_due (a.goal s) (a.goal t) w (c.rank s p) _ m h.fresh (v.falls b t relied can) (h.largest _ _ kept) h.due;
        fresh = no_wait (a.goal t) w;
        small = h.small;
      }

  within : (b : ℕ) → Controller a c → Bound c b → b ≤ 65534
  within b k bound =
      let m = bound.met in
      omega (arith, k.rival.ranked m.0 m.1 m.2, m.3)

  -- a new record of a running side
  pub takes : (s w m b present : ℕ) → Controller a c → Bound c b → Kept c s 0 → c.rank s 0 ≤ present → w + present ≤ m + 1 → (a.goal s ≡ true → w ≡ 0) → m ≤ 65534 → Runs a c s 0 w (max m b)
  takes s w m b present k bound kept low due fresh small = record {
    controller = k;
    largest = λ t q h. omega (arith, bound.above t q h);
    here = kept;
    due = omega arith;
    fresh = fresh;
    small = omega (arith, within b k bound);
  }

  -- the first record of a side
  pub begins : (s w m b : ℕ) → Controller a c → Bound c b → s ≡ a.start → w ≡ 0 → m ≡ 0 → Runs a c s 0 w (max m b)
  begins s w m b k bound at none zero_bound =
      let kept : Kept c s 0 = subst (λ (x : ℕ). Kept c x 0) (sym at) k.starts in
      record {
        controller = k;
        largest = λ t q h. omega (arith, bound.above t q h);
        here = kept;
        due = omega (arith, bound.above s 0 kept);
        fresh = λ e. none;
        small = omega (arith, within b k bound);
      }
