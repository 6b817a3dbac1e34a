-- Bits of a number.
use Rattle.std.proofs.Common.{◌≡◌, ℕ, zero, suc, ◌/◌, ◌%◌, ◌^◌, ◌<◌, ◌≤◌, true, false, ◌&&◌, eqb, ltb, sym, refl, ap, ◌∙◌, inl, inr, one-mul, arith, pow_mono}
use native.Mathlib.Nat.{div-eq_of_lt, pow-succ'}
use lib.Bits.{bit_and}
use Rattle.std.proofs.lemmas.Bool.{eqb-true, eq-eqb, ne_eqb, lt-ltb, le-ltb, cases_lt}
use Rattle.std.proofs.lemmas.Nat.{pow_pos, leading_top, div_below, le-div, mod_below, and_shr, and_mod}
use Rattle.reading.specs.Bytes.{bit}

pub shift_none : (x r : ℕ) → x < 2 ^ r → x / 2 ^ r ≡ 0
shift_none x r h = div-eq_of_lt h

pub shift_some : (x r : ℕ) → 2 ^ r ≤ x → 1 ≤ x / 2 ^ r
shift_some x r h = le-div 1 x (2 ^ r) (pow_pos r) (rw one-mul h)

-- what a shift leaves is 0 exactly if the number is below the power
pub shift_zero : (x r : ℕ) → eqb (x / 2 ^ r) 0 ≡ ltb x (2 ^ r)
shift_zero x r = elim (cases_lt x (2 ^ r)) [
  | inl h ↦ eq-eqb _ _ (shift_none x r h) ∙ sym (lt-ltb _ _ h)
  | inr h ↦ ne_eqb (x / 2 ^ r) 0 (λ e. omega (arith, shift_some x r h)) ∙ sym (le-ltb _ _ h)
]

-- a number below a power has no bit from there up
pub bit_below : (x r i : ℕ) → x < 2 ^ r → bit x i ≡ true → i < r
bit_below x r i h e = elim (cases_lt i r) [ inl l ↦ l | inr l ↦ absurd (none (shift_none x i (omega (arith, pow_mono l)))) ]
  where
    none : x / 2 ^ i ≡ 0 → ⊥
    none z = let w : 0 % 2 ≡ 1 = rw z at (eqb-true (x / 2 ^ i % 2) 1 e) in omega arith

-- the highest bit of a number that is not 0
pub top_bit : (x : ℕ) → 0 < x → x < 256 → (j : ℕ) × (bit x j ≡ true) × (x < 2 ^ suc j)
top_bit x h l =
    let t = leading_top 8 x h l in
    let j = t.0 in
    (j, one j t.2 t.3, t.3)
  where
    one : (j : ℕ) → 2 ^ j ≤ x → x < 2 ^ suc j → bit x j ≡ true
    one j lo hi =
        let few : x / 2 ^ j < 2 = div_below x (2 ^ j) 2 (pow_pos j) (rw pow-succ' at hi) in
        let q : x / 2 ^ j ≡ 1 = omega (arith, shift_some x j lo) in
        eq-eqb (x / 2 ^ j % 2) 1 (rw q refl)

-- a byte with no bit from r up is below the power
pub bits_below : (x r : ℕ) → x < 256 → ((i : ℕ) → bit x i ≡ true → i < r) → x < 2 ^ r
bits_below x r l h = elim (cases_lt x (2 ^ r)) [
  | inl k ↦ k
  | inr k ↦ (let t = top_bit x (omega (arith, pow_pos r)) l in
      absurd (omega (arith, t.2, pow_mono (h t.0 t.1))))
]

-- 0 has no bit
pub no_bit : (i : ℕ) → bit 0 i ≡ false
no_bit i = ne_eqb (0 / 2 ^ i % 2) 1 (λ e. none (shift_none 0 i (pow_pos i)) e)
  where
    none : 0 / 2 ^ i ≡ 0 → 0 / 2 ^ i % 2 ≡ 1 → ⊥
    none z e = let w : 0 % 2 ≡ 1 = rw z at e in omega arith

-- a byte without bits is 0
pub no_bits : (x : ℕ) → x < 256 → ((i : ℕ) → bit x i ≡ true → ⊥) → x ≡ 0
no_bits x l h = elim (cases_lt 0 x) [ inl p ↦ (let t = top_bit x p l in absurd (h t.0 t.1)) | inr p ↦ omega arith ]

-- two numbers share a bit exactly if both have it
pub bit_of_and : (x y i : ℕ) → bit (bit_and x y) i ≡ (bit x i && bit y i)
bit_of_and x y i =
    let shared : bit_and x y / 2 ^ i % 2 ≡ bit_and (x / 2 ^ i % 2) (y / 2 ^ i % 2) = ap (λ z. z % 2) (and_shr x y i) ∙ and_mod (x / 2 ^ i) (y / 2 ^ i) 1 in
    ap (λ z. eqb z 1) shared ∙ two (x / 2 ^ i % 2) (y / 2 ^ i % 2) (mod_below (x / 2 ^ i) 2 (omega arith)) (mod_below (y / 2 ^ i) 2 (omega arith))
  where
    two : (a b : ℕ) → a < 2 → b < 2 → eqb (bit_and a b) 1 ≡ (eqb a 1 && eqb b 1)
    two zero zero h l = refl
    two zero (suc b) h l = refl
    two (suc zero) zero h l = refl
    two (suc zero) (suc zero) h l = refl
    two (suc zero) (suc (suc b)) h l = absurd (omega arith)
    two (suc (suc a)) b h l = absurd (omega arith)
