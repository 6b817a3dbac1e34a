-- Where moves come from: sources are gathered over the states of a set, and filled state by state.
use Rattle.std.proofs.Common.{◌≡◌, ℕ, zero, suc, ◌+◌, ◌<◌, ◌≤◌, Bool, true, false, ◌||◌, eqb, ltb, List, [], length, get_or, set, replicate, sym, refl, ap, ◌∙◌, inl, inr, arith, get_or-set_other, get_or-set_same}
use Rattle.std.proofs.lemmas.Bool.{cases_lt, cases_eq, cases_Bool, ltb-true, eq-eqb, and_parts, or_left, or_right, both_ways}
use Rattle.std.specs.Array.{AllZipBelow}
use Rattle.std.proofs.lemmas.List.{get_or-replicate, ext_get_or}
use Rattle.reading.specs.Marks.{implies}
use Rattle.reading.proofs.Bits.{no_bit}
use Rattle.checking.specs.declared.state_set.StateSet.{StateSet}
use Rattle.checking.specs.StateSets.{member, nothing, FirstFrom}
use Rattle.checking.specs.Sources.{row_of, rows_move, Sourced}

pub implied : (x y : Bool) → (x ≡ true → y ≡ true) → implies x y ≡ true
implied true y h = h refl
implied false y h = refl

pub implied_by : (x y : Bool) → implies x y ≡ true → x ≡ true → y ≡ true
implied_by true y e h = e
implied_by false y e h = absurd (both_ways false refl h)

-- what a walk over a set's states knows before state k: what holds at each state of the set below k
abbrev pub Walked : (f : ℕ → Bool) → (ℕ → Type 0) → ℕ → Type 0
Walked f P k = (t : ℕ) → t < k → f t ≡ true → P t

module _ (f : ℕ → Bool) (P : ℕ → Type 0) (from : ℕ) (w : Walked f P from) where
  pub walked_next : (n u : ℕ) → FirstFrom f from n u → P u → Walked f P (u + 1)
  walked_next n u first here t l e = elim (cases_lt t from) [
    | inl m ↦ w t m e
    | inr m ↦ elim (cases_eq t u) [
      | inl q ↦ rw q here
      | inr q ↦ absurd (both_ways _ (first.before t m (omega (arith, q))) e)
    ]
  ]

  pub walked_all : ((t : ℕ) → from ≤ t → f t ≡ false) → (t : ℕ) → f t ≡ true → P t
  walked_all none t e = elim (cases_lt t from) [ inl m ↦ w t m e | inr m ↦ absurd (both_ways _ (none t m) e) ]

-- the sources of the states of a set, as far as they are gathered
abbrev pub Gathers : List StateSet → StateSet → ℕ → Type 0
Gathers sources all t = (s : ℕ) → member (get_or sources t nothing) s ≡ true → member all s ≡ true

pub gathers_more : (sources : List StateSet) (all new : StateSet) (u : ℕ) → ((s : ℕ) → member new s ≡ (member all s || member (get_or sources u nothing) s)) → (t : ℕ) → Gathers sources all t → Gathers sources new t
gathers_more sources all new u put t g s e = put s ∙ or_left _ _ (g s e)

pub gathers_here : (sources : List StateSet) (all new : StateSet) (u : ℕ) → ((s : ℕ) → member new s ≡ (member all s || member (get_or sources u nothing) s)) → Gathers sources new u
gathers_here sources all new u put s e = put s ∙ or_right (member all s) _ e

-- a state put among the sources of state u
module _ (xs : List StateSet) (u state : ℕ) (v : StateSet) (lt : u < length xs) (put : (s : ℕ) → member v s ≡ (eqb s state || member (get_or xs u nothing) s)) where
  pub put_here : member (get_or (set xs u v) u nothing) state ≡ true
  put_here = ap (λ x. member x state) (rw get_or-set_same refl) ∙ put state ∙ or_left _ _ (eq-eqb state state refl)

  pub put_more : (t s : ℕ) → member (get_or xs t nothing) s ≡ true → member (get_or (set xs u v) t nothing) s ≡ true
  put_more t s e = elim (cases_eq t u) [
    | inl q ↦ ap (λ x. member (get_or (set xs u v) x nothing) s) q ∙ ap (λ x. member x s) (rw get_or-set_same refl) ∙ put s ∙ or_right (eqb s state) _ (ap (λ x. member (get_or xs x nothing) s) (sym q) ∙ e)
    | inr q ↦ ap (λ x. member x s) (rw get_or-set_other refl) ∙ e
  ]

-- the moves of the states below k are from sources
abbrev pub Poured : ℕ → List (List (List StateSet)) → List StateSet → ℕ → Type 0
Poured n rows sources k = (s x b t : ℕ) → s < k → rows_move n rows s x b t ≡ true → member (get_or sources t nothing) s ≡ true

module _ (n : ℕ) (rows : List (List (List StateSet))) (old new : List StateSet) (k : ℕ) (w : Poured n rows old k) where
  pub poured_next : ((t s : ℕ) → member (get_or old t nothing) s ≡ true → member (get_or new t nothing) s ≡ true) → (next : StateSet)
      → ((x b t : ℕ) → x < 4 → b < 4 → member (row_of rows k x b) t ≡ true → member next t ≡ true) → ((t : ℕ) → member next t ≡ true → member (get_or new t nothing) k ≡ true)
      → Poured n rows new (k + 1)
  poured_next more next all added s x b t l e = elim (cases_lt s k) [
    | inl m ↦ more t s (w s x b t m e)
    | inr m ↦ (let q : s ≡ k = omega arith in
        let p = and_parts _ _ e in
        let i = and_parts _ _ (and_parts (ltb s n) _ p.0).1 in
        rw q (added t (all x b t (ltb-true x 4 i.0) (ltb-true b 4 i.1) (rw q at p.1))))
  ]

pub poured_all : (n : ℕ) (rows : List (List (List StateSet))) (sources : List StateSet) (k : ℕ) → n ≤ k → Poured n rows sources k → (s x b t : ℕ) → rows_move n rows s x b t ≡ true → member (get_or sources t nothing) s ≡ true
poured_all n rows sources k le w s x b t e = w s x b t (omega (arith, le, ltb-true s n (and_parts (ltb s n) _ (and_parts _ _ e).0).0)) e

-- no row has anything at first
pub no_member : (t : ℕ) → member nothing t ≡ false
no_member t = elim (cases_Bool (ltb t 128)) [ inl e ↦ rw e (no_bit t) | inr e ↦ rw e (no_bit _) ]

pub nothing_sourced : (n m : ℕ) (z : StateSet) (sources : List StateSet) → z ≡ nothing → n ≤ m → Sourced n (replicate m (replicate 4 (replicate 4 z))) sources
nothing_sourced n m z sources same le s x b t = implied _ _ (λ e. (let p = and_parts _ _ e in
    let h = and_parts (ltb s n) _ p.0 in
    let i = and_parts _ _ h.1 in
    let rows = get_or-replicate m s (replicate 4 (replicate 4 z)) [] (omega (arith, le, ltb-true s n h.0)) in
    let row = get_or-replicate 4 x (replicate 4 z) [] (ltb-true x 4 i.0) in
    let one = get_or-replicate 4 b z nothing (ltb-true b 4 i.1) in
    let none : row_of (replicate m (replicate 4 (replicate 4 z))) s x b ≡ nothing = ap (λ r. get_or (get_or r x []) b nothing) rows ∙ ap (λ r. get_or r b nothing) row ∙ one ∙ same in
    absurd (both_ways _ (no_member t) (ap (λ r. member r t) (sym none) ∙ p.1))))

-- clones of equal rows are those rows
zip_same : {A : Type 0} (R : A → A → Type 0) (d : A) (xs ys : List A) (n : ℕ) → length xs ≡ n → AllZipBelow R xs ys n → ((i : ℕ) → i < n → R (get_or xs i d) (get_or ys i d) → get_or ys i d ≡ get_or xs i d) → ys ≡ xs
zip_same R d xs ys n long w same = ext_get_or d ys xs (w.long ∙ sym long) (λ i h. (let l : i < n = omega (arith, h, w.long) in same i l (w.at i d d l)))

pub rows_same : (R : StateSet → StateSet → Type 0) → ((x y : StateSet) → R x y → y ≡ x) → (z : StateSet) (ys : List (List StateSet)) → AllZipBelow (λ p q. AllZipBelow R p q 4) (replicate 4 (replicate 4 z)) ys 4 → ys ≡ replicate 4 (replicate 4 z)
rows_same R same z ys w = zip_same (λ p q. AllZipBelow R p q 4) [] (replicate 4 (replicate 4 z)) ys 4 refl w
    (λ i l k. zip_same R z (get_or (replicate 4 (replicate 4 z)) i []) (get_or ys i []) 4 (ap length (get_or-replicate 4 i (replicate 4 z) [] l)) k (λ j m h. same _ _ h))

-- one of four

abbrev of_four_at : (P : ℕ → Type 0) → P 0 → P 1 → P 2 → P 3 → (i : ℕ) → i < 4 → P i
of_four_at P f0 f1 f2 f3 zero l = f0
of_four_at P f0 f1 f2 f3 (suc zero) l = f1
of_four_at P f0 f1 f2 f3 (suc (suc zero)) l = f2
of_four_at P f0 f1 f2 f3 (suc (suc (suc zero))) l = f3
of_four_at P f0 f1 f2 f3 (suc (suc (suc (suc i)))) l = absurd (omega arith)

module _ (all : StateSet) where
  -- what is in the set at place i of four is in all
  abbrev pub In : List StateSet → ℕ → ℕ → Type 0
  In xs t i = member (get_or xs i nothing) t ≡ true → member all t ≡ true

  -- the same in the row at place i of four
  abbrev pub InRow : List (List StateSet) → ℕ → ℕ → ℕ → Type 0
  InRow rows b t i = member (get_or (get_or rows i []) b nothing) t ≡ true → member all t ≡ true

pub of_four : (xs : List StateSet) (all : StateSet) (t : ℕ) → In all xs t 0 → In all xs t 1 → In all xs t 2 → In all xs t 3 → (i : ℕ) → i < 4 → In all xs t i
of_four xs all t = of_four_at (In all xs t)

pub of_rows : (rows : List (List StateSet)) (all : StateSet) (b t : ℕ) → InRow all rows b t 0 → InRow all rows b t 1 → InRow all rows b t 2 → InRow all rows b t 3 → (i : ℕ) → i < 4 → InRow all rows b t i
of_rows rows all b t = of_four_at (InRow all rows b t)
