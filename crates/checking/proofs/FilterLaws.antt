-- Filters of ranges of numbers.
use Rattle.std.proofs.Common.{◌≡◌, ℕ, zero, suc, ◌+◌, ◌<◌, ◌≤◌, Bool, true, false, cond, List, [], ◌∷◌, ◌++◌, length, map, get_or, refl, ap, ◌∙◌, inl, inr, arith}
use Rattle.std.proofs.lemmas.Bool.{cases_Bool}
use Rattle.std.specs.List.{range_with_len, filter}

-- a range in two parts
range_split : (a m n : ℕ) → range_with_len a (m + n) ≡ range_with_len a m ++ range_with_len (a + m) n
range_split a zero n =
    let e : a ≡ a + 0 = omega arith in
    let f : 0 + n ≡ n = omega arith in
    ap (range_with_len a) f ∙ ap (λ b. range_with_len b n) e
range_split a (suc m) n =
    let e : a + 1 + m ≡ a + suc m = omega arith in
    let f : suc m + n ≡ suc (m + n) = omega arith in
    ap (range_with_len a) f ∙ ap (λ xs. a ∷ xs) (range_split (a + 1) m n ∙ ap (λ b. range_with_len (a + 1) m ++ range_with_len b n) e)

pub range_from : (m n : ℕ) → range_with_len 0 (m + n) ≡ range_with_len 0 m ++ range_with_len m n
range_from m n = let e : 0 + m ≡ m = omega arith in range_split 0 m n ∙ ap (λ b. range_with_len 0 m ++ range_with_len b n) e

-- where nothing passes, nothing is left
pub filter_none : (f : ℕ → Bool) (a n : ℕ) → ((i : ℕ) → a ≤ i → i < a + n → f i ≡ false) → filter f (range_with_len a n) ≡ []
filter_none f a zero h = refl
filter_none f a (suc n) h =
    ap (λ t. cond t (a ∷ filter f (range_with_len (a + 1) n)) (filter f (range_with_len (a + 1) n))) (h a (omega arith) (omega arith))
    ∙ filter_none f (a + 1) n (λ i l m. h i (omega arith) (omega arith))

-- a test that answers as another does so far back
pub filter_moved : (f g : ℕ → Bool) (a b n : ℕ) → ((i : ℕ) → b ≤ i → i < b + n → f (a + i) ≡ g i) →
    filter f (range_with_len (a + b) n) ≡ map (λ x. a + x) (filter g (range_with_len b n))
filter_moved f g a b zero h = refl
filter_moved f g a b (suc n) h =
    let rest : List ℕ = filter g (range_with_len (b + 1) n) in
    let e : a + b + 1 ≡ a + (b + 1) = omega arith in
    ap (λ xs. cond (f (a + b)) ((a + b) ∷ xs) xs) (ap (λ s. filter f (range_with_len s n)) e ∙ filter_moved f g a (b + 1) n (λ i l m. h i (omega arith) (omega arith)))
    ∙ ap (λ t. cond t ((a + b) ∷ map (λ x. a + x) rest) (map (λ x. a + x) rest)) (h b (omega arith) (omega arith))
    ∙ out (g b) rest
  where
    out : (t : Bool) (xs : List ℕ) → cond t ((a + b) ∷ map (λ x. a + x) xs) (map (λ x. a + x) xs) ≡ map (λ x. a + x) (cond t (b ∷ xs) xs)
    out true xs = refl
    out false xs = refl

-- what is left passes
passes_on : (f : ℕ → Bool) (x : ℕ) (xs : List ℕ) (j d : ℕ) → f x ≡ true → ((i : ℕ) → i < length xs → f (get_or xs i d) ≡ true) →
    j < length (x ∷ xs) → f (get_or (x ∷ xs) j d) ≡ true
passes_on f x xs zero d e h l = e
passes_on f x xs (suc j) d e h l = h j (omega arith)

pub filter_passes : (f : ℕ → Bool) (xs : List ℕ) (i d : ℕ) → i < length (filter f xs) → f (get_or (filter f xs) i d) ≡ true
filter_passes f [] i d h = absurd (omega arith)
filter_passes f (x ∷ xs) i d h = elim (cases_Bool (f x)) [
  | inl e ↦ rw e (passes_on f x (filter f xs) i d e (λ j. filter_passes f xs j d) (rw e at h))
  | inr e ↦ rw e (filter_passes f xs i d (rw e at h))
]
