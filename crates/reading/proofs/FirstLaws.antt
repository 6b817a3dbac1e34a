-- Laws of the first of several answers.
use Rattle.std.proofs.Common.{◌≡◌, ℕ, zero, suc, ◌+◌, ◌<◌, ◌≤◌, max, Bool, true, false, Some, None, Option, [], ◌∷◌, ◌++◌, List, map, sym, refl, ap, ◌∙◌, inl, inr, add-one, arith}
use Rattle.std.proofs.lemmas.Bool.{cases_lt, or_left, or_right, or_cases, or_from}
use Rattle.std.specs.List.{range_with_len, reduce}
use Rattle.std.specs.Option.{unwrap_or}
use Rattle.std.proofs.lemmas.List.{map-id}
use Rattle.std.proofs.lemmas.List.Sums.{fold-append}
use Rattle.std.proofs.lemmas.List.FromFn.{map-range_with_len_more}
use Rattle.reading.specs.Firsts.{first_some, first_below, unless, where_so, some_below, highest_below}

pub not_some : {A : Type 0} {x : A} → ◌≡◌ {A = Option A} (Some x) None → ⊥
not_some e = let z : ◌≡◌ {A = ℕ} 0 1 = cc in omega arith

pub not_true : false ≡ true → ⊥
not_true e = let z : ◌≡◌ {A = ℕ} 0 1 = cc in omega arith

-- first_some
pub of_none : {A : Type 0} (o p : Option A) → o ≡ None → p ≡ None → first_some o p ≡ None
of_none (Some x) p e h = absurd (not_some e)
of_none None p e h = h

pub none_left : {A : Type 0} (o p : Option A) → first_some o p ≡ None → o ≡ None
none_left (Some x) p e = absurd (not_some e)
none_left None p e = refl

pub none_right : {A : Type 0} (o p : Option A) → first_some o p ≡ None → p ≡ None
none_right (Some x) p e = absurd (not_some e)
none_right None p e = e

pub of_left : {A : Type 0} (o p : Option A) (x : A) → o ≡ Some x → first_some o p ≡ Some x
of_left (Some y) p x e = e
of_left None p x e = absurd (not_some (sym e))

pub of_right : {A : Type 0} (o p : Option A) → o ≡ None → first_some o p ≡ p
of_right (Some y) p e = absurd (not_some e)
of_right None p e = refl

-- unless
pub unless_none : {A : Type 0} (b : Bool) (x : A) → b ≡ true → unless b x ≡ None
unless_none true x e = refl
unless_none false x e = absurd (not_true e)

pub none_unless : {A : Type 0} (b : Bool) (x : A) → unless b x ≡ None → b ≡ true
none_unless true x e = refl
none_unless false x e = absurd (not_some e)

-- where_so
pub where_none : {A : Type 0} (b : Bool) (o : Option A) → (b ≡ true → o ≡ None) → where_so b o ≡ None
where_none true o h = h refl
where_none false o h = refl

pub none_where : {A : Type 0} (b : Bool) (o : Option A) → where_so b o ≡ None → b ≡ true → o ≡ None
none_where true o e t = e
none_where false o e t = absurd (not_true t)

-- first_below: none exactly if there is none at each index
pub below_none : {A : Type 0} (n : ℕ) (f : ℕ → Option A) → ((k : ℕ) → k < n → f k ≡ None) → first_below n f ≡ None
below_none zero f h = refl
below_none (suc n) f h = of_none (first_below n f) (f n) (below_none n f (λ k l. h k (omega arith))) (h n (omega arith))

pub none_below : {A : Type 0} (n : ℕ) (f : ℕ → Option A) → first_below n f ≡ None → (k : ℕ) → k < n → f k ≡ None
none_below zero f e k l = absurd (omega arith)
none_below (suc n) f e k l =
    elim (cases_lt k n) [ inl h ↦ none_below n f (none_left (first_below n f) (f n) e) k h | inr h ↦ at (omega arith) ]
  where
    at : k ≡ n → f k ≡ None
    at q = rw q (none_right (first_below n f) (f n) e)

-- some if there is some at an index, and none before
pub below_some : {A : Type 0} (n : ℕ) (f : ℕ → Option A) (k : ℕ) (x : A) → k < n → first_below k f ≡ None → f k ≡ Some x → first_below n f ≡ Some x
below_some zero f k x l e h = absurd (omega arith)
below_some (suc n) f k x l e h =
    elim (cases_lt k n) [ inl m ↦ of_left (first_below n f) (f n) x (below_some n f k x m e h) | inr m ↦ at (omega arith) ]
  where
    at : k ≡ n → first_some (first_below n f) (f n) ≡ Some x
    at q = of_right (first_below n f) (f n) (rw q at e) ∙ rw q at h

-- a loop that stops at the first index where there is some
pub stopped : {A : Type 0} (n : ℕ) (f : ℕ → Option A) (k : ℕ) {x : A} → k < n → first_below k f ≡ None → Some x ≡ f k → Some x ≡ first_below n f
stopped n f k l e h = sym (below_some n f k _ l e (sym h))

-- one more turn of a loop
pub none_more : {A : Type 0} (i : ℕ) (f : ℕ → Option A) → first_below i f ≡ None → f i ≡ None → first_below (i + 1) f ≡ None
none_more i f e h = rw add-one (of_none (first_below i f) (f i) e h)

-- some_below
pub some_test : (n : ℕ) (f : ℕ → Bool) (k : ℕ) → k < n → f k ≡ true → some_below n f ≡ true
some_test zero f k l e = absurd (omega arith)
some_test (suc n) f k l e =
    elim (cases_lt k n) [ inl m ↦ or_left _ _ (some_test n f k m e) | inr m ↦ or_right _ _ (at (omega arith)) ]
  where
    at : k ≡ n → f n ≡ true
    at q = rw q at e

pub test_some : (n : ℕ) (f : ℕ → Bool) → some_below n f ≡ true → (k : ℕ) × (k < n) × (f k ≡ true)
test_some zero f e = absurd (not_true e)
test_some (suc n) f e = elim (or_cases (some_below n f) (f n) e) [ inl h ↦ earlier (test_some n f h) | inr h ↦ (n, omega arith, h) ]
  where
    earlier : (k : ℕ) × (k < n) × (f k ≡ true) → (k : ℕ) × (k < suc n) × (f k ≡ true)
    earlier w = (w.0, omega (arith, w.1), w.2)

pub none_test : (n : ℕ) (f : ℕ → Bool) → ((k : ℕ) → k < n → f k ≡ false) → some_below n f ≡ false
none_test zero f h = refl
none_test (suc n) f h = or_from _ _ (none_test n f (λ k l. h k (omega arith))) (h n (omega arith))

-- the end of a loop
pub none_end : {A : Type 0} (i n : ℕ) (f : ℕ → Option A) → n ≤ i → first_below i f ≡ None → None ≡ first_below n f
none_end i n f l e = sym (below_none n f (λ k h. none_below i f e k (omega arith)))

-- the largest is above each, and one of them
pub highest_over : (n : ℕ) (f : ℕ → ℕ) (k : ℕ) → k < n → f k ≤ highest_below n f
highest_over zero f k l = absurd (omega arith)
highest_over (suc n) f k l = elim (cases_lt k n) [ inl h ↦ omega (arith, highest_over n f k h) | inr h ↦ at (omega arith) ]
  where
    at : k ≡ n → f k ≤ max (highest_below n f) (f n)
    at q = rw q (omega arith)

pub highest_at : (n : ℕ) (f : ℕ → ℕ) → 0 < n → (k : ℕ) × (k < n) × (f k ≡ highest_below n f)
highest_at zero f l = absurd (omega arith)
highest_at (suc zero) f l = (0, omega arith, omega arith)
highest_at (suc (suc n)) f l = elim (cases_lt (highest_below (suc n) f) (f (suc n))) [
  | inl h ↦ (suc n, omega arith, omega arith)
  | inr h ↦ earlier h (highest_at (suc n) f (omega arith))
]
  where
    earlier : f (suc n) ≤ highest_below (suc n) f → (k : ℕ) × (k < suc n) × (f k ≡ highest_below (suc n) f) → (k : ℕ) × (k < suc (suc n)) × (f k ≡ max (highest_below (suc n) f) (f (suc n)))
    earlier h w = (w.0, omega (arith, w.1), omega (arith, w.2))

-- a range, by its last index
pub range_more : (n : ℕ) → range_with_len 0 (n + 1) ≡ range_with_len 0 n ++ n ∷ []
range_more n = sym (map-id _) ∙ map-range_with_len_more (λ i. i) 0 n n (omega arith) ∙ ap (λ is. is ++ n ∷ []) (map-id _)

-- the largest value of f below n, as the largest of a list
largest_more : (xs : List ℕ) (y : ℕ) → unwrap_or (reduce max (xs ++ y ∷ [])) 0 ≡ max (unwrap_or (reduce max xs) 0) y
largest_more [] y = omega arith
largest_more (x ∷ xs) y = fold-append max x xs (y ∷ [])

pub largest_in_range : (n : ℕ) (f : ℕ → ℕ) → unwrap_or (reduce max (map f (range_with_len 0 n))) 0 ≡ highest_below n f
largest_in_range zero f = refl
largest_in_range (suc n) f =
    ap (λ xs. unwrap_or (reduce max xs) 0) (rw add-one at (map-range_with_len_more f 0 n n (omega arith)))
    ∙ largest_more (map f (range_with_len 0 n)) (f n)
    ∙ ap (λ m. max m (f n)) (largest_in_range n f)
