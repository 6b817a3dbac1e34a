-- Laws of sets of signals by phase, over any width.
use Rattle.std.proofs.Common.{◌≡◌, ℕ, zero, suc, ◌+◌, ◌-◌, ◌*◌, ◌/◌, ◌%◌, ◌^◌, ◌<◌, ◌≤◌, min, Bool, true, false, not, ◌&&◌, [], ◌∷◌, eqb, ltb, sym, refl, ap, ◌∙◌, subst, inl, inr, mul-suc, div-one, add-one, arith, pow_mono}
use native.Mathlib.Nat.{two-pow-succ, pow-succ', div-add-mod}
use lib.Bits.{bit_and, and_step, and_zero_l}
use lib.Pow.{mod-mod-pow}
use Rattle.std.proofs.lemmas.Bool.{eqb-true, eq-eqb, ne_eqb, lt-ltb, le-ltb, cases_lt, ltb-true, and_parts, and_from, not-true, not_from_false, both_ways}
use Rattle.std.proofs.lemmas.Nat.{pow_pos, leading_top, div_below, mod_below, shr-shr, field_of, mul-le}
use Rattle.std.specs.List.{range_with_len, list_all}
use Rattle.std.proofs.lemmas.List.Folds.{list_all-append}
use Rattle.reading.specs.Bytes.{bit}
use Rattle.reading.proofs.Bits.{shift_some, shift_zero, bit_below, no_bit, bit_of_and}
use Rattle.reading.proofs.FirstLaws.{range_more, not_true as false_not_true}
use Rattle.reading.specs.Marks.{implies}
use Rattle.games.specs.Sets.{has, row, after, all_below, filled, described, Described, inside}

-- every index below n passes

-- the same, as a test of the numbers of a range
pub all_in_range : (n : ℕ) (f : ℕ → Bool) → list_all f (range_with_len 0 n) ≡ all_below n f
all_in_range zero f = refl
all_in_range (suc n) f =
    ap (list_all f) (rw add-one at (range_more n))
    ∙ list_all-append f (range_with_len 0 n) (n ∷ [])
    ∙ ap (λ b. b && (f n && true)) (all_in_range n f)
    ∙ turned (all_below n f) (f n)
  where
    turned : (a b : Bool) → (a && (b && true)) ≡ (b && a)
    turned true true = refl
    turned true false = refl
    turned false true = refl
    turned false false = refl

pub all_at : (n : ℕ) (f : ℕ → Bool) → all_below n f ≡ true → (k : ℕ) → k < n → f k ≡ true
all_at zero f e k l = absurd (omega arith)
all_at (suc n) f e k l =
    let h = and_parts (f n) (all_below n f) e in
    elim (cases_lt k n) [ inl m ↦ all_at n f h.1 k m | inr m ↦ at h.0 (omega arith) ]
  where
    at : f n ≡ true → k ≡ n → f k ≡ true
    at t q = rw q t

pub all_from : (n : ℕ) (f : ℕ → Bool) → ((k : ℕ) → k < n → f k ≡ true) → all_below n f ≡ true
all_from zero f h = refl
all_from (suc n) f h = and_from (f n) (all_below n f) (h n (omega arith)) (all_from n f (λ k l. h k (omega arith)))

-- bits of a number of any size

pub below_own_power : (x : ℕ) → x < 2 ^ x
below_own_power zero = omega arith
below_own_power (suc x) = rw two-pow-succ (omega (arith, below_own_power x))

-- the highest bit of a number that is not 0
pub top_bit : (x : ℕ) → 0 < x → (i : ℕ) × (bit x i ≡ true) × (x < 2 ^ suc i)
top_bit x h =
    let t = leading_top x x h (below_own_power x) in
    (t.0, one t.0 t.2 t.3, t.3)
  where
    one : (i : ℕ) → 2 ^ i ≤ x → x < 2 ^ suc i → bit x i ≡ true
    one i lo hi =
        let few : x / 2 ^ i < 2 = div_below x (2 ^ i) 2 (pow_pos i) (rw pow-succ' at hi) in
        let q : x / 2 ^ i ≡ 1 = omega (arith, shift_some x i lo) in
        eq-eqb (x / 2 ^ i % 2) 1 (rw q refl)

-- a number with no bit from r up is below the power
pub bits_low : (x r : ℕ) → ((i : ℕ) → bit x i ≡ true → i < r) → x < 2 ^ r
bits_low x r h = elim (cases_lt x (2 ^ r)) [
  | inl k ↦ k
  | inr k ↦ (let t = top_bit x (omega (arith, pow_pos r)) in absurd (omega (arith, t.2, pow_mono (h t.0 t.1))))
]

-- a number all of whose bits another has keeps all of them beside it
pub half_bit : (x i : ℕ) → bit (x / 2) i ≡ bit x (1 + i)
half_bit x i = ap (λ z. eqb (z % 2) 1) (shr-shr x 1 i)

pub low_bit : (x : ℕ) → bit x 0 ≡ eqb (x % 2) 1
low_bit x = ap (λ z. eqb (z % 2) 1) (div-one x)

pub both : (a b x y : Bool) → a ≡ x → b ≡ y → implies a b ≡ true → implies x y ≡ true
both a b x y p q e = ap (λ z. implies z y) (sym p) ∙ ap (λ z. implies a z) (sym q) ∙ e

pub digit_inside : (a b : ℕ) → a < 2 → b < 2 → implies (eqb a 1) (eqb b 1) ≡ true → min a b ≡ a
digit_inside zero b l m e = omega arith
digit_inside (suc zero) zero l m e = absurd (false_not_true e)
digit_inside (suc zero) (suc b) l m e = omega arith
digit_inside (suc (suc a)) b l m e = absurd (omega arith)

pub and_inside : (n x y : ℕ) → x < 2 ^ n → ((i : ℕ) → implies (bit x i) (bit y i) ≡ true) → bit_and x y ≡ x
and_inside zero x y l h =
    let z : x ≡ 0 = omega arith in
    rw z (and_zero_l y)
and_inside (suc n) x y l h =
    let twice : x < 2 ^ n + 2 ^ n = rw two-pow-succ at l in
    let half : x / 2 < 2 ^ n = omega arith in
    let rest : bit_and (x / 2) (y / 2) ≡ x / 2 = and_inside n (x / 2) (y / 2) half (λ i. both _ _ _ _ (sym (half_bit x i)) (sym (half_bit y i)) (h (1 + i))) in
    let last : min (x % 2) (y % 2) ≡ x % 2 = digit_inside (x % 2) (y % 2) (mod_below x 2 (omega arith)) (mod_below y 2 (omega arith)) (both _ _ _ _ (low_bit x) (low_bit y) (h 0)) in
    and_step x y ∙ (omega arith)

-- the signals of one phase

pub row_low : (w set p : ℕ) → row w set p < 2 ^ w
row_low w set p = mod_below (set / 2 ^ (w * p)) (2 ^ w) (pow_pos w)

low_digit : (n t j : ℕ) → n % 2 ^ ((t + 1) + j) / 2 ^ j % 2 ≡ n / 2 ^ j % 2
low_digit n t j = ap (λ z. z % 2) (field_of n (t + 1) j) ∙ mod-mod-pow (n / 2 ^ j) t 1

pub row_bit : (w set p j : ℕ) → j < w → bit (row w set p) j ≡ bit set (w * p + j)
row_bit w set p j l =
    let n = set / 2 ^ (w * p) in
    let e : (w - j - 1 + 1) + j ≡ w = omega arith in
    let cut : n % 2 ^ w / 2 ^ j % 2 ≡ n / 2 ^ j % 2 =
    subst (λ (v : ℕ). n % 2 ^ v / 2 ^ j % 2 ≡ n / 2 ^ j % 2) e (low_digit n (w - j - 1) j) in
    ap (λ z. eqb z 1) (cut ∙ ap (λ z. z % 2) (shr-shr set (w * p) j))

pub has_low : (w set p j : ℕ) → has w set p j ≡ true → j < w
has_low w set p j e = ltb-true j w (and_parts (ltb j w) (bit set (w * p + j)) e).0

pub has_bit : (w set p j : ℕ) → has w set p j ≡ true → bit (row w set p) j ≡ true
has_bit w set p j e = row_bit w set p j (has_low w set p j e) ∙ (and_parts (ltb j w) (bit set (w * p + j)) e).1

pub has_from : (w set p j : ℕ) → bit (row w set p) j ≡ true → has w set p j ≡ true
has_from w set p j e =
    let l = bit_below (row w set p) w j (row_low w set p) e in
    and_from (ltb j w) (bit set (w * p + j)) (lt-ltb j w l) (sym (row_bit w set p j l) ∙ e)

-- a set whose rows end before a phase has nothing from there on
pub has_ends : (w set p j n : ℕ) → set < 2 ^ (w * n) → has w set p j ≡ true → p < n
has_ends w set p j n l e = elim (cases_lt p n) [
  | inl k ↦ k
  | inr k ↦ (let i = bit_below set (w * n) (w * p + j) l (and_parts (ltb j w) (bit set (w * p + j)) e).1 in absurd (omega (arith, mul-le w n w p (omega arith) k)))
]

pub ends_low : (w set n : ℕ) → 0 < w → ((p j : ℕ) → has w set p j ≡ true → p < n) → set < 2 ^ (w * n)
ends_low w set n some h = bits_low set (w * n) (λ i e. place i e)
  where
    place : (i : ℕ) → bit set i ≡ true → i < w * n
    place i e =
        let q : w * (i / w) + i % w ≡ i = div-add-mod i w in
        let l : i % w < w = mod_below i w some in
        let m : has w set (i / w) (i % w) ≡ true = and_from (ltb (i % w) w) (bit set (w * (i / w) + i % w)) (lt-ltb (i % w) w l) (ap (bit set) q ∙ e) in
        let k : suc (i / w) ≤ n = h (i / w) (i % w) m in
        omega (arith, mul-le w (suc (i / w)) w n (omega arith) k, mul-suc w (i / w))

-- as described: the test and the words agree

pub filled_some : (w set p k : ℕ) → filled k (row w set p) ≡ true → (j : ℕ) × (has w set p j ≡ true)
filled_some w set p k e =
    let x = row w set p in
    let n : x ≡ 0 → ⊥ = λ z. both_ways (eqb x 0) (not-true (eqb x 0) (and_parts (not (eqb x 0)) (eqb (x / 2 ^ k) 0) e).0) (eq-eqb x 0 z) in
    let t = top_bit x (omega arith) in
    (t.0, has_from w set p t.0 t.1)

pub filled_low : (w set p k : ℕ) → filled k (row w set p) ≡ true → (j : ℕ) → has w set p j ≡ true → j < k
filled_low w set p k e j h =
    let x = row w set p in
    bit_below x k j (ltb-true x (2 ^ k) (sym (shift_zero x k) ∙ (and_parts (not (eqb x 0)) (eqb (x / 2 ^ k) 0) e).1)) (has_bit w set p j h)

pub filled_from : (w set p k j : ℕ) → has w set p j ≡ true → ((i : ℕ) → has w set p i ≡ true → i < k) → filled k (row w set p) ≡ true
filled_from w set p k j e h =
    let x = row w set p in
    and_from (not (eqb x 0)) (eqb (x / 2 ^ k) 0)
    (not_from_false (eqb x 0) (ne_eqb x 0 (λ z. empty z)))
    (shift_zero x k ∙ lt-ltb x (2 ^ k) (bits_low x k (λ i b. h i (has_from w set p i b))))
  where
    empty : row w set p ≡ 0 → ⊥
    empty z = both_ways (bit 0 j) (no_bit j) (ap (λ y. bit y j) (sym z) ∙ has_bit w set p j e)

pub in_words : (w phases k set : ℕ) → described w phases k set ≡ true → Described w phases k set
in_words w phases k set e =
    let f : ℕ → Bool = λ p. filled k (row w set p) in
    let h = and_parts (eqb (after w set phases) 0) (all_below phases f) e in
    let l = ltb-true set (2 ^ (w * phases)) (sym (shift_zero set (w * phases)) ∙ h.0) in
    record {
      some = λ p b. filled_some w set p k (all_at phases f h.1 p b);
      low = λ p j m. filled_low w set p k (all_at phases f h.1 p (has_ends w set p j phases l m)) j m;
      ends = λ p j m. has_ends w set p j phases l m;
    }

pub from_words : (w phases k set : ℕ) → 0 < w → Described w phases k set → described w phases k set ≡ true
from_words w phases k set some d =
    let f : ℕ → Bool = λ p. filled k (row w set p) in
    and_from (eqb (after w set phases) 0) (all_below phases f)
    (shift_zero set (w * phases) ∙ lt-ltb set (2 ^ (w * phases)) (ends_low w set phases some d.ends))
    (all_from phases f (λ p l. let s = d.some p l in filled_from w set p k s.0 s.1 (d.low p)))

-- a set within another: the test and the words agree

pub inside_signal : (w inner outer p j : ℕ) → inside w inner outer p ≡ true → implies (has w inner p j) (has w outer p j) ≡ true
inside_signal w inner outer p j e = elim (cases_lt j w) [ inl l ↦ kept l | inr l ↦ ap (λ z. implies (z && bit inner (w * p + j)) (has w outer p j)) (le-ltb j w l) ]
  where
    at : (set : ℕ) → j < w → bit (row w set p) j ≡ has w set p j
    at set l = row_bit w set p j l ∙ ap (λ z. z && bit set (w * p + j)) (sym (lt-ltb j w l))

    joined : (a b : Bool) → a ≡ (a && b) → implies a b ≡ true
    joined true b q = sym q
    joined false b q = refl

    kept : j < w → implies (has w inner p j) (has w outer p j) ≡ true
    kept l = both _ _ _ _ (at inner l) (at outer l) (joined (bit (row w inner p) j) (bit (row w outer p) j) (ap (λ z. bit z j) (sym (eqb-true _ _ e)) ∙ bit_of_and (row w inner p) (row w outer p) j))

pub inside_from : (w inner outer p : ℕ) → ((j : ℕ) → implies (has w inner p j) (has w outer p j) ≡ true) → inside w inner outer p ≡ true
inside_from w inner outer p h = eq-eqb _ _ (and_inside w (row w inner p) (row w outer p) (row_low w inner p) kept)
  where
    passed : (a b : Bool) → a ≡ true → implies a b ≡ true → b ≡ true
    passed true b q e = e
    passed false b q e = absurd (false_not_true q)

    to : (a b : Bool) → (a ≡ true → b ≡ true) → implies a b ≡ true
    to true b f = f refl
    to false b f = refl

    kept : (j : ℕ) → implies (bit (row w inner p) j) (bit (row w outer p) j) ≡ true
    kept j = to _ _ (λ e. has_bit w outer p j (passed _ _ (has_from w inner p j e) (h j)))
