-- The lift: it is lawful, and its moves are the steps between floors.
use Rattle.std.specs.Prelude.{◌≡◌, ℕ, zero, suc, ◌+◌, ◌*◌, ◌/◌, ◌%◌, ◌<◌, ◌≤◌, Bool, true, ◌&&◌, ◌||◌, ◌⊎◌, ◌==◌, nat_le, nat_lt, refl}
use Rattle.std.proofs.Common.{inl, inr, arith}
use Rattle.std.proofs.lemmas.Bool.{ltb-true, leb-true, eqb-true, eqb-false, lt-ltb, and_parts, and_from, or_cases, not-true}
use Rattle.std.proofs.lemmas.Bool.Decides.{nat_tests}
use Rattle.games.specs.Machines.{Lawful, in_range}
use Rattle.games.specs.Lifts.{state, flips, lift_move, lift_label, lift, Step, stay, up, coast, down, flip, Steps}

labels : (F s : ℕ) → lift_label F s < 8
labels F s = grind (arith, nat_tests)

unlabelled : (F s : ℕ) → 2 ≤ F → 2 * F ≤ s → lift_label F s ≡ 0
unlabelled F s l h = grind (arith, nat_tests)

-- a possible move has its numbers in range
pub inside : (n k m s a b t : ℕ) (x : Bool) → (in_range n k m s a b t && x) ≡ true → (s < n) × (a < k) × (b < m) × (t < n)
inside n k m s a b t x e =
    let h = (and_parts (in_range n k m s a b t) x e).0 in
    let p = and_parts (nat_lt s n && nat_lt t n) (nat_lt a k && nat_lt b m) h in
    let q = and_parts (nat_lt s n) (nat_lt t n) p.0 in
    let r = and_parts (nat_lt a k) (nat_lt b m) p.1 in
    (ltb-true s n q.0, ltb-true a k r.0, ltb-true b m r.1, ltb-true t n q.1)

-- a lift is a lawful machine
pub lift_lawful : (F m : ℕ) → 2 ≤ F → F ≤ 32 → 2 ≤ m → m ≤ 4 → Lawful (lift F m)
lift_lawful F m f1 f2 m1 m2 = record {
  some_states = omega arith;
  few_states = omega arith;
  some_own = omega arith;
  few_own = omega arith;
  some_partner = omega arith;
  few_partner = omega arith;
  starts = omega arith;
  labels = labels F;
  unlabelled = λ s. unlabelled F s f1;
  inside = λ s a b t. inside (2 * F) 4 m s a b t (lift_move F s a b t);
}

-- what the test of the two ends says of the floor
ends : (F f l : ℕ) → l < 2 → f < F → (nat_lt (state f l) 2 || nat_le (2 * F) (state f l + 2)) ≡ true → (f ≡ 0) ⊎ (f + 1 ≡ F)
ends F f l hl hf e =
    elim (or_cases (nat_lt (state f l) 2) (nat_le (2 * F) (state f l + 2)) e) [
      | inl h ↦ inl (omega (arith, ltb-true (state f l) 2 h))
      | inr h ↦ inr (omega (arith, leb-true (2 * F) (state f l + 2) h))
    ]

-- from a move in range to its step
from_move : (F f l a b g k : ℕ) → f < F → l < 2 → a < 4 → g < F → k < 2 → lift_move F (state f l) a b (state g k) ≡ true → Step F f l a b g k
from_move F f l zero b g k hf hl ha hg hk e =
    let q = eqb-true (state f l) (state g k) e in
    stay refl (omega arith) (omega arith)
from_move F f l (suc zero) b g k hf hl ha hg hk e =
    elim (or_cases (state g k == state f l + 2) _ e) [
      | inl h ↦ (let q = eqb-true (state g k) (state f l + 2) h in up refl (omega arith) (omega arith))
      | inr h ↦ (let p = and_parts (state f l % 2 == 0) (state g k == state f l + 4) h in
          let z = eqb-true (state f l % 2) 0 p.0 in
          let q = eqb-true (state g k) (state f l + 4) p.1 in
          coast refl (omega arith) (omega arith) (omega arith))
    ]
from_move F f l (suc (suc zero)) b g k hf hl ha hg hk e =
    let q = eqb-true (state f l) (state g k + 2) e in
    down refl (omega arith) (omega arith)
from_move F f l (suc (suc (suc zero))) b g k hf hl ha hg hk e =
    let p = and_parts (b == 1) (flips F (state f l) (state g k)) e in
    let q = and_parts (nat_lt (state f l) 2 || nat_le (2 * F) (state f l + 2)) _ p.1 in
    let r = and_parts (state f l / 2 == state g k / 2) _ q.1 in
    let same = eqb-true (state f l / 2) (state g k / 2) r.0 in
    let other = eqb-false (state f l) (state g k) (not-true _ r.1) in
    flip refl (eqb-true b 1 p.0) (ends F f l hl hf q.0) (omega arith) (omega arith)
from_move F f l (suc (suc (suc (suc a)))) b g k hf hl ha hg hk e = absurd (omega arith)

-- and back
to_move : (F f l a b g k : ℕ) → f < F → l < 2 → g < F → k < 2 → Step F f l a b g k → lift_move F (state f l) a b (state g k) ≡ true
to_move F f l a b g k hf hl hg hk (stay ha hF hL) = grind (arith, nat_tests)
to_move F f l a b g k hf hl hg hk (up ha hF hL) = grind (arith, nat_tests)
to_move F f l a b g k hf hl hg hk (coast ha h0 hF hL) = grind (arith, nat_tests)
to_move F f l a b g k hf hl hg hk (down ha hF hL) = grind (arith, nat_tests)
to_move F f l a b g k hf hl hg hk (flip ha hb hend hF hL) = grind (arith, nat_tests)

ranged : (n k m s a b t : ℕ) → s < n → a < k → b < m → t < n → in_range n k m s a b t ≡ true
ranged n k m s a b t hs ha hb ht =
    and_from (nat_lt s n && nat_lt t n) (nat_lt a k && nat_lt b m)
    (and_from (nat_lt s n) (nat_lt t n) (lt-ltb s n hs) (lt-ltb t n ht))
    (and_from (nat_lt a k) (nat_lt b m) (lt-ltb a k ha) (lt-ltb b m hb))

-- the test of a move says that there is a step
pub lift_steps : (F m : ℕ) → Steps F m
lift_steps F m f l a b g k hf hl ha hb hg hk =
    let r = in_range (2 * F) 4 m (state f l) a b (state g k) in
    let x = lift_move F (state f l) a b (state g k) in (
      λ e. from_move F f l a b g k hf hl ha hg hk (and_parts r x e).1,
      λ h. and_from r x (ranged (2 * F) 4 m (state f l) a b (state g k) (omega arith) ha hb (omega arith)) (to_move F f l a b g k hf hl hg hk h),
    )
