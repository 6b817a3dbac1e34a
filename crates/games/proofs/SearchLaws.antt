-- A binary search among moves that ascend finds a move exactly if it is listed.
use Rattle.std.proofs.Common.{◌≡◌, ℕ, zero, suc, ◌<◌, ◌≤◌, Bool, true, false, ◌&&◌, eqb, List, [], ◌∷◌, length, get_or, map, Ok, Err, Result, is_ok, sym, refl, ◌∙◌, inl, inr, arith}
use Rattle.std.proofs.lemmas.Bool.{cases_lt, eq-eqb, lt-ltb, or_left, or_right, or_from, eqb-true, and_parts, and_from}
use Rattle.std.proofs.lemmas.Bool.Decides.{nat_tests}
use Rattle.std.proofs.Common.{Ordering, Less, Equal, Greater}
use Rattle.std.specs.Ordering.{ordering_then, ordering_index, nat_cmp}
use Rattle.std.specs.List.Sorted.{IsNonDecreasingBy, IsBinarySearchResult, IsSearchInRange}
use Rattle.reading.specs.declared.machine_sheet.Move.{Move}
use Rattle.std.specs.List.{range_with_len}
use Rattle.std.proofs.lemmas.List.FromFn.{get_or-map-range_with_len, length-map-range_with_len}
use Rattle.reading.specs.MachineSheets.{Sheet, Before}
use Rattle.games.specs.Listings.{move_at, precedes, Ascending, listed}

-- by key, then by target
abbrev compare : ℕ → ℕ → Move → Ordering
compare key target m = ordering_then (nat_cmp m.key key) (nat_cmp m.target target)

module _ (key target : ℕ) where
  rise : (m n : Move) → precedes m n ≡ true → ordering_index (compare key target m) ≤ ordering_index (compare key target n)
  rise m n p = grind (arith, nat_tests)

  rising : (ms : List Move) → Ascending ms → IsNonDecreasingBy (λ m. ordering_index (compare key target m)) ms
  rising ms a i j d l h = elim (cases_lt i j) [
    | inl k ↦ rise (get_or ms i d) (get_or ms j d) (a i j d k h)
    | inr k ↦ (let e : i ≡ j = omega arith in rw e (omega arith))
  ]

  equal_is : (m : Move) → compare key target m ≡ Equal → (m.key ≡ key) × (m.target ≡ target)
  equal_is m e = (grind (arith, nat_tests), grind (arith, nat_tests))

  is_equal : (m : Move) → m.key ≡ key → m.target ≡ target → compare key target m ≡ Equal
  is_equal m p q = grind (arith, nat_tests)

  listed_at : (ms : List Move) (i : ℕ) (d : Move) → i < length ms → compare key target (get_or ms i d) ≡ Equal → listed ms key target ≡ true
  listed_at [] i d l e = absurd (omega arith)
  listed_at (m ∷ ms) zero d l e = let w = equal_is m e in or_left _ _ (and_from (eqb m.key key) (eqb m.target target) (eq-eqb _ _ w.0) (eq-eqb _ _ w.1))
  listed_at (m ∷ ms) (suc i) d l e = or_right _ _ (listed_at ms i d (omega arith) e)

  unlisted : (ms : List Move) → ((i : ℕ) (d : Move) → i < length ms → compare key target (get_or ms i d) ≡ Equal → ⊥) → listed ms key target ≡ false
  unlisted [] f = refl
  unlisted (m ∷ ms) f = or_from _ _ (here (eqb m.key key && eqb m.target target) refl) (unlisted ms (λ i d l. f (suc i) d (omega arith)))
    where
      here : (b : Bool) → b ≡ (eqb m.key key && eqb m.target target) → (eqb m.key key && eqb m.target target) ≡ false
      here true e =
          let w = and_parts _ _ (sym e) in
          absurd (f 0 m (omega arith) (is_equal m (eqb-true _ _ w.0) (eqb-true _ _ w.1)))
      here false e = sym e

  pub searched : (ms : List Move) → Ascending ms → (ord : Move → Ordering) → ((m : Move) → ord m ≡ compare key target m) → (r : Result ℕ ℕ) → IsSearchInRange r (length ms) → IsBinarySearchResult ord ms r
      → is_ok r ≡ listed ms key target
  searched ms a ord same (Ok i) b h = sym (at ms b h)
    where
      at : (ms : List Move) → i < length ms → ((d : Move) → ord (get_or ms i d) ≡ Equal) → listed ms key target ≡ true
      at [] l e = absurd (omega arith)
      at (m ∷ ms) l e = listed_at (m ∷ ms) i m l (sym (same _) ∙ e m)
  searched ms a ord same (Err i) b h = sym (unlisted ms apart)
    where
      rises : IsNonDecreasingBy (λ m. ordering_index (ord m)) ms
      rises k j d l x = rw (same (get_or ms k d), same (get_or ms j d)) (rising ms a k j d l x)

      apart : (j : ℕ) (d : Move) → j < length ms → compare key target (get_or ms j d) ≡ Equal → ⊥
      apart j d l e = elim (cases_lt j i) [
        | inl k ↦ (let z : ◌≡◌ {A = Ordering} Less Equal = sym ((h rises).0 j d (omega arith) k) ∙ same _ ∙ e in cc)
        | inr k ↦ (let z : ◌≡◌ {A = Ordering} Greater Equal = sym ((h rises).1 j d k l) ∙ same _ ∙ e in cc)
      ]

-- the moves of a lawful sheet ascend
pub ascending_moves : (s : Sheet) → ((i j : ℕ) → i < j → j < s.moves → Before s i j) → (ms : List Move) → ms ≡ map (move_at s) (range_with_len 0 s.moves) → Ascending ms
ascending_moves s h ms e = rw e at_once
  where
    at_once : Ascending (map (move_at s) (range_with_len 0 s.moves))
    at_once i j d l k =
        let n : j < s.moves = omega (arith, k, length-map-range_with_len (move_at s) 0 s.moves) in
        let p = get_or-map-range_with_len (move_at s) 0 s.moves i i d (omega arith) (omega arith) in
        let q = get_or-map-range_with_len (move_at s) 0 s.moves j j d n (omega arith) in
        rw (p, q) (elim (h i j l n) [
          | inl b ↦ or_left _ _ (lt-ltb _ _ b)
          | inr b ↦ or_right _ _ (and_from _ _ (eq-eqb _ _ b.0) (lt-ltb _ _ b.1))
        ])
