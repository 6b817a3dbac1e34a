-- Laws of sets of states.
use Rattle.std.proofs.Common.{◌≡◌, ℕ, zero, suc, ◌+◌, ◌-◌, ◌*◌, ◌/◌, ◌%◌, ◌^◌, ◌<◌, ◌≤◌, Bool, true, false, not, ◌&&◌, ◌||◌, eqb, sym, refl, ap, ◌∙◌, inl, inr, Decides, arith}
use native.Mathlib.Nat.{two-pow-succ}
use Rattle.std.proofs.Math.Bool.{or_comm}
use lib.Bits.{bit_and, bit_or}
use mir.Syntax.{w128}
use Rattle.std.specs.Int.{bit_not, bit_at, trailing_zeros}
use Rattle.std.proofs.lemmas.Nat.Bits.{bit_at_not, bit_at-trailing_zeros}
use Rattle.std.proofs.lemmas.Bool.{eqb-true, and_parts, and_from, eq-eqb, ne_eqb, lt-ltb, le-ltb, cases_lt, cases_eq, cond-true, cond-false, both_ways, cases_Bool}
use Rattle.std.proofs.lemmas.Nat.{pow-add, pow_below, shl-shr, shr-shr, or_shr, or_mod, mod_below, one_shl, shr_le}
use Rattle.reading.specs.Bytes.{bit}
use Rattle.reading.specs.Marks.{implies}
use Rattle.reading.proofs.Bits.{shift_none, bit_below, bit_of_and, no_bit}
use Rattle.games.proofs.SetLaws.{top_bit, and_inside}
use Rattle.checking.specs.declared.state_set.StateSet.{StateSet}
use Rattle.checking.specs.StateSets.{member, FirstFrom}

-- one of two numbers has a bit exactly if their union has it
pub bit_of_or : (x y i : ℕ) → bit (bit_or x y) i ≡ (bit x i || bit y i)
bit_of_or x y i =
    let joined : bit_or x y / 2 ^ i % 2 ≡ bit_or (x / 2 ^ i % 2) (y / 2 ^ i % 2) = ap (λ z. z % 2) (or_shr x y i) ∙ or_mod (x / 2 ^ i) (y / 2 ^ i) 1 in
    ap (λ z. eqb z 1) joined ∙ two (x / 2 ^ i % 2) (y / 2 ^ i % 2) (mod_below (x / 2 ^ i) 2 (omega arith)) (mod_below (y / 2 ^ i) 2 (omega arith))
  where
    two : (a b : ℕ) → a < 2 → b < 2 → eqb (bit_or a b) 1 ≡ (eqb a 1 || eqb b 1)
    two zero zero h l = refl
    two zero (suc zero) h l = refl
    two zero (suc (suc b)) h l = absurd (omega arith)
    two (suc zero) zero h l = refl
    two (suc zero) (suc zero) h l = refl
    two (suc zero) (suc (suc b)) h l = absurd (omega arith)
    two (suc (suc a)) b h l = absurd (omega arith)

even : (n : ℕ) → 2 ^ suc n % 2 ≡ 0
even n = let e : 2 ^ suc n ≡ 2 ^ n + 2 ^ n = two-pow-succ n in omega (arith, e)

-- a power of two has one bit
pub bit_power : (k j : ℕ) → bit (2 ^ k) j ≡ eqb j k
bit_power k j = elim (cases_lt k j) [
  | inl l ↦ (let z : 2 ^ k / 2 ^ j % 2 ≡ 0 = ap (λ n. n % 2) (shift_none (2 ^ k) j (pow_below k j l)) in
      ne_eqb _ 1 (λ e. omega (arith, z, e)) ∙ sym (ne_eqb j k (λ e. omega arith)))
  | inr l ↦ at (k - j) (omega arith)
]
  where
    at : (d : ℕ) → d + j ≡ k → bit (2 ^ k) j ≡ eqb j k
    at zero e =
        let q : j ≡ k = omega arith in
        let one : 2 ^ k / 2 ^ j ≡ 1 = ap (λ n. 2 ^ n / 2 ^ j) (sym e) ∙ ap (λ n. n / 2 ^ j) (pow-add 2 0 j) ∙ shl-shr 1 j in
        eq-eqb _ 1 (ap (λ n. n % 2) one) ∙ sym (eq-eqb j k q)
    at (suc d) e =
        let more : 2 ^ k / 2 ^ j ≡ 2 ^ suc d = ap (λ n. 2 ^ n / 2 ^ j) (sym e) ∙ ap (λ n. n / 2 ^ j) (pow-add 2 (suc d) j) ∙ shl-shr (2 ^ suc d) j in
        let z : 2 ^ k / 2 ^ j % 2 ≡ 0 = ap (λ n. n % 2) more ∙ even d in
        ne_eqb _ 1 (λ h. omega (arith, z, h)) ∙ sym (ne_eqb j k (λ h. omega arith))

-- one more bit
one_more : (x k j : ℕ) → k < 128 → bit (bit_or x ((1 * 2 ^ k) % 2 ^ 128)) j ≡ (eqb j k || bit x j)
one_more x k j l =
    ap (λ n. bit (bit_or x n) j) (one_shl k 128 l)
    ∙ bit_of_or x (2 ^ k) j
    ∙ or_comm (bit x j) (bit (2 ^ k) j)
    ∙ ap (λ b. b || bit x j) (bit_power k j)

module _ (x : StateSet) (s : ℕ) where
  pub insert_low : s < 128 → (t : ℕ) → member (record { low = bit_or x.low ((1 * 2 ^ s) % 2 ^ 128); high = x.high }) t ≡ (eqb t s || member x t)
  insert_low l t = elim (cases_lt t 128) [
    | inl h ↦ (let e = lt-ltb t 128 h in cond-true _ _ _ e ∙ one_more x.low s t l ∙ ap (λ b. eqb t s || b) (sym (cond-true _ _ _ e)))
    | inr h ↦ (let e = le-ltb t 128 h in cond-false _ _ _ e ∙ sym (cond-false _ _ _ e) ∙ ap (λ b. b || member x t) (sym (ne_eqb t s (λ q. omega arith))))
  ]

  pub insert_high : 128 ≤ s → s < 256 → (t : ℕ) → member (record { low = x.low; high = bit_or x.high ((1 * 2 ^ (s - 128)) % 2 ^ 128) }) t ≡ (eqb t s || member x t)
  insert_high g l t = elim (cases_lt t 128) [
    | inl h ↦ (let e = lt-ltb t 128 h in cond-true _ _ _ e ∙ sym (cond-true _ _ _ e) ∙ ap (λ b. b || member x t) (sym (ne_eqb t s (λ q. omega arith))))
    | inr h ↦ (let e = le-ltb t 128 h in
        cond-false _ _ _ e
        ∙ one_more x.high (s - 128) (t - 128) (omega arith)
        ∙ ap (λ b. eqb (t - 128) (s - 128) || b) (sym (cond-false _ _ _ e))
        ∙ ap (λ b. b || member x t) (shifted h))
  ]
    where
      shifted : 128 ≤ t → eqb (t - 128) (s - 128) ≡ eqb t s
      shifted h = elim (cases_eq t s) [
        | inl q ↦ eq-eqb _ _ (omega arith) ∙ sym (eq-eqb t s q)
        | inr n ↦ ne_eqb _ _ (λ q. n (omega arith)) ∙ sym (ne_eqb t s n)
      ]

-- a set with a word that is not 0 has one
pub some_low : (x : StateSet) → x.low < 2 ^ 128 → (x.low ≡ 0 → ⊥) → (t : ℕ) × (member x t ≡ true)
some_low x l n =
    let w = top_bit x.low (omega arith) in
    (w.0, cond-true _ _ _ (lt-ltb w.0 128 (bit_below x.low 128 w.0 l w.1)) ∙ w.1)

pub some_high : (x : StateSet) → (x.high ≡ 0 → ⊥) → (t : ℕ) × (member x t ≡ true)
some_high x n =
    let w = top_bit x.high (omega arith) in
    (w.0 + 128, high w.0 w.1)
  where
    high : (i : ℕ) → bit x.high i ≡ true → member x (i + 128) ≡ true
    high i e = let q : i + 128 - 128 ≡ i = omega arith in cond-false _ _ _ (le-ltb (i + 128) 128 (omega arith)) ∙ ap (bit x.high) q ∙ e

-- one word within another
pub word_from : (a b i : ℕ) → bit_and a b ≡ a → bit a i ≡ true → bit b i ≡ true
word_from a b i e h = right (bit a i) (bit b i) (sym (bit_of_and a b i) ∙ ap (λ z. bit z i) e ∙ h)
  where
    right : (x y : Bool) → (x && y) ≡ true → y ≡ true
    right true y q = q
    right false y q = absurd (both_ways false refl q)

implied : (x y : Bool) → (x ≡ true → y ≡ true) → implies x y ≡ true
implied true y h = h refl
implied false y h = refl

pub word_to : (n a b : ℕ) → a < 2 ^ n → ((i : ℕ) → bit a i ≡ true → bit b i ≡ true) → bit_and a b ≡ a
word_to n a b l h = and_inside n a b l (λ i. implied _ _ (h i))

module _ (x y : StateSet) where
  pub within_from : bit_and x.low y.low ≡ x.low → bit_and x.high y.high ≡ x.high → (t : ℕ) → member x t ≡ true → member y t ≡ true
  within_from a b t h = elim (cases_lt t 128) [
    | inl l ↦ (let e = lt-ltb t 128 l in cond-true _ _ _ e ∙ word_from x.low y.low t a (sym (cond-true _ _ _ e) ∙ h))
    | inr l ↦ (let e = le-ltb t 128 l in cond-false _ _ _ e ∙ word_from x.high y.high (t - 128) b (sym (cond-false _ _ _ e) ∙ h))
  ]

  module _ (h : (t : ℕ) → member x t ≡ true → member y t ≡ true) where
    pub low_within : x.low < 2 ^ 128 → bit_and x.low y.low ≡ x.low
    low_within l = word_to 128 x.low y.low l (λ i e.
        let q = lt-ltb i 128 (bit_below x.low 128 i l e) in
        sym (cond-true _ _ _ q) ∙ h i (cond-true _ _ _ q ∙ e))

    pub high_within : x.high < 2 ^ 128 → bit_and x.high y.high ≡ x.high
    high_within l = word_to 128 x.high y.high l (λ i e.
        let q = le-ltb (i + 128) 128 (omega arith) in
        let back : i + 128 - 128 ≡ i = omega arith in
        sym (cond-false _ _ _ q ∙ ap (bit y.high) back) ∙ h (i + 128) (cond-false _ _ _ q ∙ ap (bit x.high) back ∙ e))

-- sets are the same if their words are
pub same_sets : (x y : StateSet) → Decides (eqb x.low y.low && eqb x.high y.high) (x ≡ y)
same_sets x y = (
  λ e. let w = and_parts _ _ e in join (eqb-true _ _ w.0) (eqb-true _ _ w.1),
  λ e. and_from _ _ (eq-eqb _ _ (ap (λ z. z.low) e)) (eq-eqb _ _ (ap (λ z. z.high) e)),
)
  where
    join : x.low ≡ y.low → x.high ≡ y.high → x ≡ y
    join a b = λ i. record { low = a i; high = b i }

-- the lowest bit from a place on

shifted : (x f j : ℕ) → bit x (f + j) ≡ bit (x / 2 ^ f) j
shifted x f j = ap (λ z. eqb (z % 2) 1) (sym (shr-shr x f j))

pub lowest_none : (x f : ℕ) → x / 2 ^ f ≡ 0 → (i : ℕ) → f ≤ i → bit x i ≡ false
lowest_none x f z i le =
    let e : f + (i - f) ≡ i = omega arith in
    ap (bit x) (sym e) ∙ shifted x f (i - f) ∙ ap (λ n. bit n (i - f)) z ∙ no_bit (i - f)

pub lowest_some : (x f : ℕ) → x < 2 ^ 128 → (x / 2 ^ f ≡ 0 → ⊥) → FirstFrom (bit x) f 128 (f + trailing_zeros w128 (x / 2 ^ f))
lowest_some x f l n =
    let w = bit_at-trailing_zeros w128 (x / 2 ^ f) (omega arith) (omega (arith, shr_le x f)) in
    let t = trailing_zeros w128 (x / 2 ^ f) in
    let one : bit x (f + t) ≡ true = shifted x f t ∙ eq-eqb _ 1 w.1 in
    record {
      low = omega arith;
      high = bit_below x 128 (f + t) l one;
      here = one;
      before = λ i le lt. (let e : f + (i - f) ≡ i = omega arith in
          ap (bit x) (sym e) ∙ shifted x f (i - f) ∙ ne_eqb _ 1 (λ q. omega (arith, q, w.2 (i - f) (omega arith))));
    }

module _ (x : StateSet) (from : ℕ) where
  -- none in the low word
  abbrev pub LowNone : Type 0
  LowNone = (i : ℕ) → from ≤ i → i < 128 → bit x.low i ≡ false

  pub first_none : LowNone → ((i : ℕ) → from - 128 ≤ i → bit x.high i ≡ false) → (t : ℕ) → from ≤ t → member x t ≡ false
  first_none none high t le = elim (cases_lt t 128) [
    | inl l ↦ cond-true _ _ _ (lt-ltb t 128 l) ∙ none t le l
    | inr l ↦ cond-false _ _ _ (le-ltb t 128 l) ∙ high (t - 128) (omega arith)
  ]

-- no bit from the width up
pub no_high : (x i : ℕ) → x < 2 ^ 128 → 128 ≤ i → bit x i ≡ false
no_high x i l h = elim (cases_Bool (bit x i)) [ inl e ↦ absurd (omega (arith, h, bit_below x 128 i l e)) | inr e ↦ e ]

-- unions and differences

module _ (x y : StateSet) where
  pub or_member : (t : ℕ) → member (record { low = bit_or x.low y.low; high = bit_or x.high y.high }) t ≡ (member x t || member y t)
  or_member t = elim (cases_lt t 128) [
    | inl l ↦ (let e = lt-ltb t 128 l in cond-true _ _ _ e ∙ bit_of_or x.low y.low t ∙ ap (λ b. b || bit y.low t) (sym (cond-true _ _ _ e)) ∙ ap (λ b. member x t || b) (sym (cond-true _ _ _ e)))
    | inr l ↦ (let e = le-ltb t 128 l in cond-false _ _ _ e ∙ bit_of_or x.high y.high (t - 128) ∙ ap (λ b. b || bit y.high (t - 128)) (sym (cond-false _ _ _ e)) ∙ ap (λ b. member x t || b) (sym (cond-false _ _ _ e)))
  ]

flipped : (a b : ℕ) → b < 2 → a ≡ 1 - b → eqb a 1 ≡ not (eqb b 1)
flipped a zero l e = rw e refl
flipped a (suc zero) l e = rw e refl
flipped a (suc (suc b)) l e = absurd (omega arith)

word_minus : (a b i : ℕ) → a < 2 ^ 128 → b < 2 ^ 128 → bit (bit_and a (bit_not w128 b)) i ≡ (bit a i && not (bit b i))
word_minus a b i la lb = bit_of_and a (bit_not w128 b) i ∙ (elim (cases_lt i 128) [
  | inl l ↦ ap (λ z. bit a i && z) (flipped (bit_at (bit_not w128 b) i) (bit_at b i) (mod_below (b / 2 ^ i) 2 (omega arith)) (bit_at_not w128 b i lb l))
  | inr l ↦ ap (λ z. z && bit (bit_not w128 b) i) (no_high a i la l) ∙ ap (λ z. z && not (bit b i)) (sym (no_high a i la l))
])

module _ (x y : StateSet) (xl : x.low < 2 ^ 128) (xh : x.high < 2 ^ 128) (yl : y.low < 2 ^ 128) (yh : y.high < 2 ^ 128) where
  pub minus_member : (t : ℕ) → member (record { low = bit_and x.low (bit_not w128 y.low); high = bit_and x.high (bit_not w128 y.high) }) t ≡ (member x t && not (member y t))
  minus_member t = elim (cases_lt t 128) [
    | inl l ↦ (let e = lt-ltb t 128 l in cond-true _ _ _ e ∙ word_minus x.low y.low t xl yl ∙ ap (λ b. b && not (bit y.low t)) (sym (cond-true _ _ _ e)) ∙ ap (λ b. member x t && not b) (sym (cond-true _ _ _ e)))
    | inr l ↦ (let e = le-ltb t 128 l in cond-false _ _ _ e ∙ word_minus x.high y.high (t - 128) xh yh ∙ ap (λ b. b && not (bit y.high (t - 128))) (sym (cond-false _ _ _ e)) ∙ ap (λ b. member x t && not b) (sym (cond-false _ _ _ e)))
  ]
