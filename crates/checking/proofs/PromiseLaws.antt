-- The promises of a side, listed phase by phase: those over one phase more are those over the phases before, with each set of the new one.
use Rattle.std.proofs.Common.{◌≡◌, ℕ, zero, suc, ◌+◌, ◌-◌, ◌*◌, ◌/◌, ◌%◌, ◌^◌, ◌<◌, ◌≤◌, Bool, true, false, not, ◌&&◌, List, [], ◌∷◌, ◌++◌, length, get_or, eqb, refl, sym, ap, ◌∙◌, subst, suc-mul, add-mul, mul_assoc, le-div_iff_mul-le, mul-le-mul, mul-le-mul_right, mul_comm, pow_mono, arith}
use Rattle.std.proofs.Math.Nat.{mul-add-mod_self_right}
use Rattle.std.proofs.lemmas.Bool.{eq-eqb, ne_eqb, ltb-true, and_parts}
use Rattle.std.proofs.lemmas.List.{append-nil, get_or-map, get_or-take}
use Rattle.std.proofs.lemmas.List.Elements.{filter-append}
use Rattle.std.proofs.lemmas.Nat.{pow-add, pow_pos, shr_high, field_of, div-add-mod', mod_below, div_below}
use Rattle.std.specs.List.{range_with_len, filter}
use Rattle.reading.proofs.Bits.{shift_none, shift_some, shift_zero}
use Rattle.games.specs.Sets.{width, row, after, all_below, filled, described}
use Rattle.checking.specs.Searching.{promises}
use Rattle.checking.proofs.FilterLaws.{range_from, filter_none, filter_moved, filter_passes}
use Rattle.checking.proofs.BlockLaws.{blocks, length_blocks, first_block}

-- numbers of one phase more: a set of the new phase, and what a number holds of the phases before
module _ (k p : ℕ) where
  abbrev unit : ℕ
  unit = 2 ^ (width * p)

  abbrev small : ℕ → Bool
  small = described width p k

  abbrev large : ℕ → Bool
  large = described width (suc p) k

  unit_pos : 0 < unit
  unit_pos = pow_pos (width * p)

  next_unit : 2 ^ (width * suc p) ≡ 16 * unit
  next_unit = let e : width * suc p ≡ width + width * p = omega arith in ap (λ n. 2 ^ n) e ∙ pow-add 2 width (width * p)

  -- an earlier phase does not see the new one
  row_before : (d lo q : ℕ) → q < p → row width (d * unit + lo) q ≡ row width lo q
  row_before d lo q h =
      let j = width + width * q in
      let r = width * p - j in
      let e : width * p ≡ r + j = omega arith in
      let cut : d * unit + lo ≡ d * 2 ^ r * 2 ^ j + lo =
      let f : d * (2 ^ r * 2 ^ j) ≡ d * 2 ^ r * 2 ^ j = sym (mul_assoc d (2 ^ r) (2 ^ j)) in
      ap (λ n. d * n + lo) (ap (λ n. 2 ^ n) e ∙ pow-add 2 r j) ∙ ap (λ n. n + lo) f in
      sym (field_of (d * unit + lo) width (width * q))
      ∙ ap (λ n. n % 2 ^ j / 2 ^ (width * q)) cut
      ∙ ap (λ n. n / 2 ^ (width * q)) (mul-add-mod_self_right (d * 2 ^ r) (2 ^ j) lo)
      ∙ field_of lo width (width * q)

  same_all : (n : ℕ) (f g : ℕ → Bool) → ((q : ℕ) → q < n → f q ≡ g q) → all_below n f ≡ all_below n g
  same_all zero f g h = refl
  same_all (suc n) f g h = ap (λ t. t && all_below n f) (h n (omega arith)) ∙ ap (λ t. g n && t) (same_all n f g (λ q l. h q (omega arith)))

  -- a described number of one phase more
  parted : (d lo : ℕ) → d < 16 → lo < unit → large (d * unit + lo) ≡ (filled k d && small lo)
  parted d lo h l =
      let top : (d * unit + lo) / unit ≡ d = shr_high d (width * p) lo l in
      let end : after width (d * unit + lo) (suc p) ≡ 0 = shift_none _ _ (rw next_unit (omega (arith, below))) in
      let none : after width lo p ≡ 0 = shift_none _ _ l in
      let this : row width (d * unit + lo) p ≡ d = ap (λ n. n % 16) top ∙ mod_low d h in
      ap (λ n. eqb n 0 && all_below (suc p) (λ q. filled k (row width (d * unit + lo) q))) end
      ∙ ap (λ n. filled k n && all_below p (λ q. filled k (row width (d * unit + lo) q))) this
      ∙ ap (λ t. filled k d && t) (same_all p _ (λ q. filled k (row width lo q)) (λ q m. ap (filled k) (row_before d lo q m)))
      ∙ ap (λ n. filled k d && (eqb n 0 && all_below p (λ q. filled k (row width lo q)))) (sym none)
    where
      below : d * unit + lo < 16 * unit
      below = let m : d ≤ 15 = omega arith in omega (arith, mul-le-mul_right unit m)

      mod_low : (n : ℕ) → n < 16 → n % 16 ≡ n
      mod_low n m = omega arith

  filled_low : (d : ℕ) → 0 < d → d < 2 ^ k → filled k d ≡ true
  filled_low d h l = ap (λ t. not t && eqb (d / 2 ^ k) 0) (ne_eqb d 0 (λ e. omega arith)) ∙ eq-eqb _ 0 (shift_none d k l)

  filled_high : (d : ℕ) → 2 ^ k ≤ d → filled k d ≡ false
  filled_high d h = ap (λ t. not (eqb d 0) && t) (ne_eqb (d / 2 ^ k) 0 (λ e. omega (arith, e, shift_some d k h))) ∙ no (not (eqb d 0))
    where
      no : (t : Bool) → (t && false) ≡ false
      no true = refl
      no false = refl

  -- the sets of the new phase in turn
  up_to : (d : ℕ) → d < 2 ^ k → d < 16 → filter large (range_with_len 0 (suc d * unit)) ≡ blocks unit (promises p k) d
  unfolding promises
  up_to zero h l = filter_none large 0 (1 * unit) (λ i a b. at i (omega (arith, b)))
    where
      at : (i : ℕ) → i < unit → large i ≡ false
      at i m = let e : i ≡ 0 * unit + i = omega arith in ap large e ∙ parted 0 i (omega arith) m
  up_to (suc d) h l =
      let e : suc (suc d) * unit ≡ suc d * unit + unit = suc-mul (suc d) unit in
      let f : suc d * unit ≡ suc d * unit + 0 = omega arith in
      ap (λ n. filter large (range_with_len 0 n)) e
      ∙ ap (filter large) (range_from (suc d * unit) unit)
      ∙ filter-append large (range_with_len 0 (suc d * unit)) (range_with_len (suc d * unit) unit)
      ∙ ap (λ xs. xs ++ filter large (range_with_len (suc d * unit) unit)) (up_to d (omega arith) (omega arith))
      ∙ ap (λ n. blocks unit (promises p k) d ++ filter large (range_with_len n unit)) f
      ∙ ap (λ xs. blocks unit (promises p k) d ++ xs) (filter_moved large small (suc d * unit) 0 unit (λ i a b. parted (suc d) i l (omega (arith, b)) ∙ ap (λ t. t && small i) (filled_low (suc d) (omega arith) h)))

  beyond : (n : ℕ) → 2 ^ k + n ≡ 16 → filter large (range_with_len (2 ^ k * unit) (n * unit)) ≡ []
  beyond n e = filter_none large (2 ^ k * unit) (n * unit) at
    where
      at : (i : ℕ) → 2 ^ k * unit ≤ i → i < 2 ^ k * unit + n * unit → large i ≡ false
      at i a b =
          let low : i % unit < unit = mod_below i unit unit_pos in
          let sum : i / unit * unit + i % unit ≡ i = div-add-mod' i unit in
          let all : i < 16 * unit = omega (arith, whole) in
          let few : i / unit < 16 = div_below i unit 16 unit_pos all in
          let many : 2 ^ k ≤ i / unit = (le-div_iff_mul-le unit_pos).1 a in
          ap large (sym sum) ∙ parted (i / unit) (i % unit) few low ∙ ap (λ t. t && small (i % unit)) (filled_high (i / unit) many)
        where
          whole : 2 ^ k * unit + n * unit ≡ 16 * unit
          whole = sym (add-mul (2 ^ k) n unit) ∙ ap (λ m. m * unit) e

  pub promises_grow : (n : ℕ) → 2 ^ k + n ≡ 16 → promises (suc p) k ≡ blocks unit (promises p k) (2 ^ k - 1)
  unfolding promises
  promises_grow n e =
      let s : 2 ^ k ≡ suc (2 ^ k - 1) = omega (arith, pow_pos k) in
      let whole : 2 ^ (width * suc p) ≡ 2 ^ k * unit + n * unit = next_unit ∙ ap (λ m. m * unit) (sym e) ∙ add-mul (2 ^ k) n unit in
      ap (λ m. filter large (range_with_len 0 m)) whole
      ∙ ap (filter large) (range_from (2 ^ k * unit) (n * unit))
      ∙ filter-append large (range_with_len 0 (2 ^ k * unit)) (range_with_len (2 ^ k * unit) (n * unit))
      ∙ ap (λ xs. filter large (range_with_len 0 (2 ^ k * unit)) ++ xs) (beyond n e)
      ∙ append-nil _
      ∙ ap (λ m. filter large (range_with_len 0 (m * unit))) s
      ∙ up_to (2 ^ k - 1) (omega (arith, pow_pos k)) (omega (arith, e, pow_pos k))

-- for so many signals there are less than 16 sets
sets_below : (k : ℕ) → k ≤ 4 → (n : ℕ) × (2 ^ k + n ≡ 16)
sets_below zero h = (15, refl)
sets_below (suc zero) h = (14, refl)
sets_below (suc (suc zero)) h = (12, refl)
sets_below (suc (suc (suc zero))) h = (8, refl)
sets_below (suc (suc (suc (suc zero)))) h = (0, refl)
sets_below (suc (suc (suc (suc (suc k))))) h = absurd (omega arith)

module _ (k : ℕ) (few : k ≤ 4) where
  pub one_phase_more : (p : ℕ) → promises (suc p) k ≡ blocks (2 ^ (width * p)) (promises p k) (2 ^ k - 1)
  one_phase_more p = let n = sets_below k few in promises_grow k p n.0 n.1

  pub no_phases : promises 0 k ≡ 0 ∷ []
  unfolding promises
  no_phases = refl

  pub more_length : (p : ℕ) → length (promises (suc p) k) ≡ (2 ^ k - 1) * length (promises p k)
  more_length p = ap length (one_phase_more p) ∙ length_blocks (2 ^ (width * p)) (promises p k) (2 ^ k - 1)

-- over more phases there are no fewer, and some
module _ (k : ℕ) (few : k ≤ 4) (some : 1 ≤ k) where
  pub one_set : 1 ≤ 2 ^ k - 1
  one_set = let e : 2 ^ 1 ≤ 2 ^ k = pow_mono some in omega (arith, e)

  pub grows : (p : ℕ) → length (promises p k) ≤ length (promises (suc p) k)
  grows p = rw (more_length k few p) (omega (arith, mul-le-mul_right (length (promises p k)) one_set))

  pub grows_on : (p d : ℕ) → length (promises p k) ≤ length (promises (d + p) k)
  grows_on p zero = let e : 0 + p ≡ p = omega arith in rw e (omega arith)
  grows_on p (suc d) = let e : suc d + p ≡ suc (d + p) = omega arith in rw e (omega (arith, grows_on p d, grows (d + p)))

  pub some_promises : (p : ℕ) → 1 ≤ length (promises p k)
  some_promises zero = rw (no_phases k few) (omega arith)
  some_promises (suc p) = omega (arith, some_promises p, grows p)

-- too many over one phase more are too many over all
pub many_on : (k p n many : ℕ) → k ≤ 4 → 1 ≤ k → p < n → many < length (promises p k) * (2 ^ k - 1) → many < length (promises n k)
many_on k p n many few some h l =
    let e : n - suc p + suc p ≡ n = omega arith in
    omega (arith, l, ap (λ i. length (promises i k)) e, grows_on k few some (suc p) (n - suc p), more_length k few p, mul_comm (length (promises p k)) (2 ^ k - 1))

pub few_on : (k p many : ℕ) → k ≤ 4 → length (promises p k) * (2 ^ k - 1) ≤ many → length (promises (p + 1) k) ≤ many
few_on k p many few l =
    let s : p + 1 ≡ suc p = omega arith in
    omega (arith, l, ap (λ i. length (promises i k)) s, more_length k few p, mul_comm (length (promises p k)) (2 ^ k - 1))

-- a promise is as described, and lies below the unit of the next phase
pub promise_described : (p k i d : ℕ) → i < length (promises p k) → described width p k (get_or (promises p k) i d) ≡ true
unfolding promises
promise_described p k i d h = filter_passes (described width p k) (range_with_len 0 (2 ^ (width * p))) i d h

pub promise_below : (p k i d : ℕ) → i < length (promises p k) → get_or (promises p k) i d < 2 ^ (width * p)
promise_below p k i d h = low (get_or (promises p k) i d) (and_parts _ _ (promise_described p k i d h)).0
  where
    low : (x : ℕ) → eqb (after width x p) 0 ≡ true → x < 2 ^ (width * p)
    low x e = ltb-true _ _ (sym (shift_zero x (width * p)) ∙ e)

-- what a phase adds fits 32 bits
module _ (k p u : ℕ) (before : List ℕ) (few : k ≤ 4) (phase : p < 8) (e : u ≡ 2 ^ (width * p)) (listed : before ≡ promises p k) where
  unit_low : u ≤ 268435456
  unit_low =
      let h : width * p ≤ 28 = omega arith in
      let l : 2 ^ (width * p) ≤ 2 ^ 28 = pow_mono h in
      omega (arith, e, l)

  few_sets : 2 ^ k ≤ 16
  few_sets = let l : 2 ^ k ≤ 2 ^ 4 = pow_mono few in omega (arith, l)

  low : (i : ℕ) → i < length before → get_or before i 0 < u
  low = subst (λ (xs : List ℕ). (i : ℕ) → i < length xs → get_or xs i 0 < u) (sym listed) (λ i h. omega (arith, e, promise_below p k i 0 h))

  pub raise_fits : (i : ℕ) → i < length before → u + get_or before i 0 < 4294967296
  raise_fits i h = omega (arith, low i h, unit_low)

  pub set_fits : (d : ℕ) → d < 2 ^ k - 1 → d * u < 4294967296
  set_fits d h = let l : d ≤ 15 = omega (arith, h, few_sets) in omega (arith, unit_low, mul-le-mul_right u l)

  pub more_fits : (d i : ℕ) → 1 ≤ d → d < 2 ^ k - 1 → i < length before → d * u + get_or (blocks u before d) i 0 < 4294967296
  more_fits zero i a h l = absurd (omega arith)
  more_fits (suc d) i a h l =
      let m : suc d ≤ 14 = omega (arith, h, few_sets) in
      omega (arith, entry, low i l, unit_low, mul-le-mul_right u m)
    where
      entry : get_or (blocks u before (suc d)) i 0 ≡ 1 * u + get_or before i 0
      entry = sym (get_or-take (length before) (blocks u before (suc d)) i 0 l) ∙ ap (λ xs. get_or xs i 0) (first_block u before d) ∙ get_or-map (λ x. 1 * u + x) before i 0 0 l

  pub room_for : (d n c : ℕ) → d < 2 ^ k - 1 → n ≡ length (blocks u before d) → length before * (2 ^ k - 1) ≤ c → n + length before ≤ c
  room_for d n c h l r =
      let m : suc d ≤ 2 ^ k - 1 = h in
      omega (arith, l, r, length_blocks u before d, suc-mul d (length before), mul-le-mul_right (length before) m, mul_comm (length before) (2 ^ k - 1))

  pub all_blocks : (d : ℕ) → d ≡ 2 ^ k - 1 → blocks u before d ≡ promises (p + 1) k
  all_blocks d q =
      let s : suc p ≡ p + 1 = omega arith in
      ap (λ xs. blocks u xs d) listed ∙ ap (blocks u (promises p k)) q ∙ ap (λ n. blocks n (promises p k) (2 ^ k - 1)) e ∙ sym (one_phase_more k few p) ∙ ap (λ n. promises n k) s

pub few_many : (k n : ℕ) → k ≤ 4 → n ≤ 65535 → n * (2 ^ k - 1) ≤ 983025
few_many k n few h =
    let l : 2 ^ k ≤ 2 ^ 4 = pow_mono few in
    let m : 2 ^ k - 1 ≤ 15 = omega (arith, l) in
    omega (arith, mul-le-mul h m)
