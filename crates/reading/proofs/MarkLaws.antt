-- Mark sheets: from the order of faults to the lawful sheet, and back.
use Rattle.std.proofs.Common.{◌≡◌, ℕ, ◌+◌, ◌-◌, ◌*◌, ◌/◌, ◌%◌, ◌^◌, ◌<◌, ◌≤◌, Bool, true, false, ◌&&◌, eqb, ltb, List, ◌++◌, length, take, drop, replicate, None, Option, sym, refl, ap, ◌∙◌, subst, inl, inr, mod-eq_of_lt, arith, length-drop, length-take}
use lib.Bits.{bit_and}
use Rattle.std.proofs.lemmas.List.{get_or-take, get_or-drop, get_or_past}
use Rattle.std.proofs.lemmas.Nat.{div-mul-add, mod-mul-add, div-add-mod', and_le_l}
use Rattle.std.proofs.lemmas.Bool.{ltb-true, eqb-true, lt-ltb, eq-eqb, cases_lt, and_parts, and_from}
use Rattle.reading.specs.Firsts.{first_below, unless}
use Rattle.reading.specs.Bytes.{byte, bit}
use Rattle.reading.specs.Faults.{Fault, fault, length_place}
use Rattle.reading.specs.Marks.{marked, implies}
use Rattle.reading.specs.MarkSheets.{Sets, stray_fault, clash_fault, mark_fault, Lawful}
use Rattle.reading.proofs.FirstLaws.{of_none, of_right, none_left, none_right, none_unless, unless_none, none_below, below_none, not_true}
use Rattle.reading.proofs.Padding.{front_of_zeros, padded_whole, zeros_are}
use Rattle.reading.proofs.Bits.{bit_below, bits_below, bit_of_and, no_bit, no_bits}

-- past 32 bytes nothing is marked
unmarked : (xs : List ℕ) (s : ℕ) → length xs ≤ s / 8 → marked xs s ≡ true → ⊥
unmarked xs s h e = not_true (sym (no_bit (s % 8)) ∙ sym (ap (λ x. bit x (s % 8)) (get_or_past xs (s / 8) 0 h)) ∙ e)

-- a byte's bits are its eight states
place_of : (xs : List ℕ) (j i : ℕ) → i < 8 → marked xs (j * 8 + i) ≡ bit (byte xs j) i
place_of xs j i l = ap (λ k. bit (byte xs k) ((j * 8 + i) % 8)) (div-mul-add j 8 i l) ∙ ap (bit (byte xs j)) (mod-mul-add j 8 i l)

-- only states below n are in the set exactly if each byte is below its power
inside_from : (n : ℕ) (xs : List ℕ) → ((j : ℕ) → j < length xs → byte xs j < 2 ^ (n - 8 * j)) → (s : ℕ) → marked xs s ≡ true → s < n
inside_from n xs h s e = elim (cases_lt (s / 8) (length xs)) [
  | inl l ↦ omega (arith, bit_below (byte xs (s / 8)) (n - 8 * (s / 8)) (s % 8) (h (s / 8) l) e, div-add-mod' s 8)
  | inr l ↦ absurd (unmarked xs s l e)
]

inside_to : (n : ℕ) (xs : List ℕ) → ((j : ℕ) → byte xs j < 256) → ((s : ℕ) → marked xs s ≡ true → s < n) → (j : ℕ) → byte xs j < 2 ^ (n - 8 * j)
inside_to n xs small h j = bits_below (byte xs j) (n - 8 * j) (small j) each
  where
    each : (i : ℕ) → bit (byte xs j) i ≡ true → i < n - 8 * j
    each i e =
        let l = bit_below (byte xs j) 8 i (small j) e in
        omega (arith, h (j * 8 + i) (place_of xs j i l ∙ e))

-- no state is in both sets exactly if no two bytes share a bit
apart_from : (xs ys : List ℕ) → ((j : ℕ) → j < length xs → bit_and (byte xs j) (byte ys j) ≡ 0) → (s : ℕ) → marked xs s ≡ true → marked ys s ≡ true → ⊥
apart_from xs ys h s e f = elim (cases_lt (s / 8) (length xs)) [
  | inl l ↦ not_true (sym (no_bit (s % 8)) ∙ sym (ap (λ x. bit x (s % 8)) (h (s / 8) l)) ∙ bit_of_and (byte xs (s / 8)) (byte ys (s / 8)) (s % 8) ∙ and_from _ _ e f)
  | inr l ↦ unmarked xs s l e
]

apart_to : (xs ys : List ℕ) → ((j : ℕ) → byte xs j < 256) → ((s : ℕ) → marked xs s ≡ true → marked ys s ≡ true → ⊥) → (j : ℕ) → bit_and (byte xs j) (byte ys j) ≡ 0
apart_to xs ys small h j = no_bits (bit_and (byte xs j) (byte ys j)) (omega (arith, small j, and_le_l (byte xs j) (byte ys j))) none
  where
    none : (i : ℕ) → bit (bit_and (byte xs j) (byte ys j)) i ≡ true → ⊥
    none i e =
        let b = and_parts (bit (byte xs j) i) (bit (byte ys j) i) (sym (bit_of_and (byte xs j) (byte ys j) i) ∙ e) in
        let l = bit_below (byte xs j) 8 i (small j) b.0 in
        h (j * 8 + i) (place_of xs j i l ∙ b.0) (place_of ys j i l ∙ b.1)

module _ (n : ℕ) (xs : List ℕ) where
  -- a byte of either half, by its place in the sheet
  first_half : ((j : ℕ) → j < length xs → byte xs j < 2 ^ (n - 8 * (j % 32))) → length xs ≡ 64 → (j : ℕ) → j < length (take 32 xs) → byte (take 32 xs) j < 2 ^ (n - 8 * j)
  first_half h l j k =
      let m : j < 32 = omega (arith, length-take 32 xs) in
      let q : j % 32 ≡ j = mod-eq_of_lt m in
      rw get_or-take (subst (λ (i : ℕ). byte xs j < 2 ^ (n - 8 * i)) q (h j (omega arith)))

  second_half : ((j : ℕ) → j < length xs → byte xs j < 2 ^ (n - 8 * (j % 32))) → length xs ≡ 64 → (j : ℕ) → j < length (drop 32 xs) → byte (drop 32 xs) j < 2 ^ (n - 8 * j)
  second_half h l j k =
      let m : j < 32 = omega (arith, length-drop 32 xs) in
      let q : (32 + j) % 32 ≡ j = mod-mul-add 1 32 j m in
      rw get_or-drop (subst (λ (i : ℕ). byte xs (32 + j) < 2 ^ (n - 8 * i)) q (h (32 + j) (omega arith)))

  -- and back: a byte of the sheet, by its half
  either_half : ((j : ℕ) → byte (take 32 xs) j < 2 ^ (n - 8 * j)) → ((j : ℕ) → byte (drop 32 xs) j < 2 ^ (n - 8 * j)) → length xs ≡ 64
      → (j : ℕ) → j < length xs → byte xs j < 2 ^ (n - 8 * (j % 32))
  either_half low high l j k = elim (cases_lt j 32) [ inl m ↦ at_low m | inr m ↦ at_high m ]
    where
      at_low : j < 32 → byte xs j < 2 ^ (n - 8 * (j % 32))
      at_low m = subst (λ (i : ℕ). byte xs j < 2 ^ (n - 8 * i)) (sym (mod-eq_of_lt m)) (rw get_or-take at (low j))

      at_high : 32 ≤ j → byte xs j < 2 ^ (n - 8 * (j % 32))
      at_high m =
          let i : ℕ = j - 32 in
          let q : 32 + i ≡ j = omega arith in
          let r : i ≡ (32 + i) % 32 = sym (mod-mul-add 1 32 i (omega arith)) in
          let here : byte xs (32 + i) < 2 ^ (n - 8 * i) = rw get_or-drop at (high i) in
          let there : byte xs (32 + i) < 2 ^ (n - 8 * ((32 + i) % 32)) = subst (λ (z : ℕ). byte xs (32 + i) < 2 ^ (n - 8 * z)) r here in
          subst (λ (z : ℕ). byte xs z < 2 ^ (n - 8 * (z % 32))) q there

  -- what the three tests say
  pub record Clear : Type 0 where
    pub long : length xs ≡ 64
    pub strays : None ≡ first_below (length xs) (stray_fault n xs)
    pub clashes : None ≡ first_below (length (take 32 xs)) (clash_fault (take 32 xs) (drop 32 xs))

  pub clear_lawful : Clear → Lawful n xs
  clear_lawful c =
      let bytes : (j : ℕ) → j < length xs → byte xs j < 2 ^ (n - 8 * (j % 32)) = λ j l. ltb-true _ _ (none_unless _ _ (none_below _ _ (sym c.strays) j l)) in
      record {
        long = c.long;
        forbidden = inside_from n (take 32 xs) (first_half bytes c.long);
        goals = inside_from n (drop 32 xs) (second_half bytes c.long);
        apart = apart_from (take 32 xs) (drop 32 xs) (λ j l. eqb-true _ _ (none_unless _ _ (none_below _ _ (sym c.clashes) j l)));
      }

  pub lawful_from : mark_fault n xs ≡ None → Lawful n xs
  lawful_from e =
      let size : Option Fault = unless (eqb (length xs) 64) (fault 3 (length_place xs)) in
      let stray : Option Fault = first_below (length xs) (stray_fault n xs) in
      let r = none_right size _ e in
      clear_lawful (record {
        long = eqb-true _ _ (none_unless _ _ (none_left size _ e));
        strays = sym (none_left stray _ r);
        clashes = sym (none_right stray _ r);
      })

  pub lawful_to : ((j : ℕ) → byte xs j < 256) → Lawful n xs → mark_fault n xs ≡ None
  lawful_to small w =
      of_none _ _ (unless_none _ _ (eq-eqb _ _ w.long))
      (of_none _ _
      (below_none _ _ (λ j l. unless_none _ _ (lt-ltb _ _ (either_half (inside_to n (take 32 xs) small_low w.forbidden) (inside_to n (drop 32 xs) small_high w.goals) w.long j l))))
      (below_none (length (take 32 xs)) (clash_fault (take 32 xs) (drop 32 xs)) (λ j l. unless_none _ _ (eq-eqb _ _ (apart_to (take 32 xs) (drop 32 xs) small_low w.apart j)))))
    where
      small_low : (j : ℕ) → byte (take 32 xs) j < 256
      small_low j = elim (cases_lt j 32) [ inl l ↦ rw get_or-take (small j) | inr l ↦ omega (arith, get_or_past (take 32 xs) j 0 (omega (arith, length-take 32 xs))) ]

      small_high : (j : ℕ) → byte (drop 32 xs) j < 256
      small_high j = rw get_or-drop (small (32 + j))

pub same_clashes : (xs forbidden goals : List ℕ) → forbidden ≡ take 32 xs → goals ≡ drop 32 xs
    → first_below (length forbidden) (clash_fault forbidden goals) ≡ first_below (length (take 32 xs)) (clash_fault (take 32 xs) (drop 32 xs))
same_clashes xs forbidden goals hf hg =
    ap (λ ys. first_below (length ys) (clash_fault ys goals)) hf ∙ ap (λ ys. first_below (length (take 32 xs)) (clash_fault (take 32 xs) ys)) hg

-- the first fault, where the length and all bits fit
pub clashes_first : (n : ℕ) (xs forbidden goals : List ℕ) → length xs ≡ 64 → None ≡ first_below (length xs) (stray_fault n xs) → forbidden ≡ take 32 xs → goals ≡ drop 32 xs
    → mark_fault n xs ≡ first_below (length forbidden) (clash_fault forbidden goals)
clashes_first n xs forbidden goals long strays hf hg =
    of_right _ _ (unless_none _ _ (eq-eqb _ _ long)) ∙ of_right _ _ (sym strays) ∙ sym (same_clashes xs forbidden goals hf hg)

-- the sets that were read are the halves of the sheet
pub half_kept : (ys half buffer : List ℕ) → buffer ≡ half ++ drop (length half) (replicate 32 0) → half ≡ ys → length half ≡ 32 → buffer ≡ ys
half_kept ys half buffer e h l = e ∙ front_of_zeros 32 half ∙ padded_whole 32 half l ∙ h

pub inside_of : (n : ℕ) (xs ys : List ℕ) → ys ≡ xs → ((s : ℕ) → marked xs s ≡ true → s < n) → (s : ℕ) → implies (marked ys s) (ltb s n) ≡ true
inside_of n xs ys e h s = rw e (go (marked xs s) refl)
  where
    go : (b : Bool) → marked xs s ≡ b → implies b (ltb s n) ≡ true
    go true q = lt-ltb _ _ (h s q)
    go false q = refl

pub apart_of : (xs ys zs ws : List ℕ) → zs ≡ xs → ws ≡ ys → ((s : ℕ) → marked xs s ≡ true → marked ys s ≡ true → ⊥) → (s : ℕ) → (marked zs s && marked ws s) ≡ false
apart_of xs ys zs ws e f h s = rw (e, f) (go (marked xs s) (marked ys s) refl refl)
  where
    go : (b c : Bool) → marked xs s ≡ b → marked ys s ≡ c → (b && c) ≡ false
    go true true p q = absurd (h s p q)
    go true false p q = refl
    go false c p q = refl

-- nothing is marked in zeros
pub none_marked : (s : ℕ) → marked (replicate 32 0) s ≡ false
none_marked s = ap (λ x. bit x (s % 8)) (zeros_are 32 (s / 8)) ∙ no_bit (s % 8)

-- the sets of a sheet, by its halves
pub sets_with : (n : ℕ) {a b x y : List ℕ} → a ≡ x → b ≡ y → ◌≡◌ {A = Sets} (record { states = n; forbidden = a; goals = b }) (record { states = n; forbidden = x; goals = y })
sets_with n p q = cc
