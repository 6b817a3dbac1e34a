-- The candidates by their places, and the deals on them.
use Rattle.std.proofs.Common.{rules, ◌≡◌, ℕ, zero, suc, ◌+◌, ◌-◌, ◌*◌, ◌/◌, ◌%◌, ◌<◌, ◌≤◌, Bool, true, false, ◌&&◌, List, [], ◌∷◌, ◌++◌, None, Ok, Err, Result, IsOk, length, map, get_or, refl, sym, ap, ◌∙◌, zero-mul, suc-mul, mul-suc, mul-le-mul, mul_comm, leb, arith}
use Rattle.std.specs.Option.{option_map}
use Rattle.std.proofs.lemmas.Bool.{and_from, lt-leb}
use Rattle.std.proofs.lemmas.Nat.{div_below, mod_below, div-add-mod', mul-add-lt}
use Rattle.std.proofs.lemmas.List.{length-append, length-map, get_or-map, get_or_append_left, get_or-append_right}
use Rattle.reading.specs.Sides.{both}
use Rattle.reading.specs.declared.sides.Sides.{Sides}
use Rattle.reading.specs.declared.sizes.Sizes.{Sizes}
use Rattle.reading.specs.Marks.{implies}
use Rattle.reading.proofs.FirstLaws.{not_some, of_none, unless_none}
use Rattle.games.specs.Sets.{width, has, described}
use Rattle.games.specs.declared.deal.Deal.{Deal}
use Rattle.games.specs.declared.deal.signing.Unsigned.{Unsigned}
use Rattle.games.specs.declared.deal.talk.TalkFault.TheVariants.{NotTerms}
use Rattle.games.specs.Deals.{numbers}
use Rattle.games.specs.Signings.{about, refused, signing_fault, Dealt}
use Rattle.games.proofs.DealLaws.{no_gap}
use Rattle.checking.specs.Searching.{promises, pairs, candidate, how_many, terms_of}
use Rattle.checking.proofs.PromiseLaws.{promise_described, some_promises}

module _ {A : Type 0} where
  pub length_pairs : (xs ys : List A) → length (pairs xs ys) ≡ length xs * length ys
  length_pairs [] ys = sym (zero-mul (length ys))
  length_pairs (x ∷ xs) ys =
      length-append (map (both x) ys) (pairs xs ys) ∙ ap (λ n. n + length (pairs xs ys)) (length-map ys (both x)) ∙ ap (λ n. length ys + n) (length_pairs xs ys)
      ∙ turned (length xs) (length ys)
    where
      turned : (m n : ℕ) → n + m * n ≡ suc m * n
      turned m n = omega (arith, suc-mul m n)

  -- a pair by its row and column
  pub pair_at : (xs ys : List A) (a b : ℕ) (d : Sides A) (e : A) → a < length xs → b < length ys → get_or (pairs xs ys) (a * length ys + b) d ≡ both (get_or xs a e) (get_or ys b e)
  pair_at [] ys a b d e h l = absurd (omega arith)
  pair_at (x ∷ xs) ys zero b d e h l =
      let z : 0 * length ys + b ≡ b = omega (arith, zero-mul (length ys)) in
      ap (λ i. get_or (map (both x) ys ++ pairs xs ys) i d) z
      ∙ get_or_append_left (map (both x) ys) (pairs xs ys) d b (omega (arith, length-map ys (both x)))
      ∙ get_or-map (both x) ys b e d l
  pair_at (x ∷ xs) ys (suc a) b d e h l =
      let i : suc a * length ys + b - length ys ≡ a * length ys + b = omega (arith, suc-mul a (length ys)) in
      get_or-append_right (map (both x) ys) (pairs xs ys) (length ys) (suc a * length ys + b) d (length-map ys (both x)) (omega (arith, suc-mul a (length ys)))
      ∙ ap (λ n. get_or (pairs xs ys) n d) i ∙ pair_at xs ys a b d e (omega arith) l

-- the candidate at a place, by the promises at its row and column
module _ (z : Sizes) (xs ys : List ℕ) (ex : xs ≡ promises z.phases z.signals.first) (ey : ys ≡ promises z.phases z.signals.second) where
  pub count_is : how_many z ≡ length xs * length ys
  count_is = rw (ex, ey) (length_pairs (promises z.phases z.signals.first) (promises z.phases z.signals.second))

  pub candidate_at : (a b : ℕ) → a < length xs → b < length ys → candidate z (a * length ys + b) ≡ both (get_or xs a 0) (get_or ys b 0)
  candidate_at = rw (ex, ey) (λ a b. pair_at (promises z.phases z.signals.first) (promises z.phases z.signals.second) a b (both 0 0) 0)

  pub place_below : (a b : ℕ) → a < length xs → b < length ys → a * length ys + b < how_many z
  place_below a b h l = omega (arith, count_is, mul-add-lt a (length ys) b (length xs) h l, mul_comm (length xs) (length ys))

  pub count_fits : length xs ≤ 65535 → length ys ≤ 65535 → length xs * length ys ≤ 4294836225
  count_fits h l = omega (arith, mul-le-mul h l)

  module _ (i : ℕ) (h : i < how_many z) where
    pub some_columns : 0 < length ys
    some_columns = pos (length ys) (omega (arith, h, count_is))
      where
        pos : (n : ℕ) → i < length xs * n → 0 < n
        pos zero l = absurd (omega (arith, l))
        pos (suc n) l = omega arith

    pub row_below : i / length ys < length xs
    row_below = div_below i (length ys) (length xs) some_columns (omega (arith, h, count_is))

    pub column_below : i % length ys < length ys
    column_below = mod_below i (length ys) some_columns

    pub candidate_is : candidate z i ≡ both (get_or xs (i / length ys) 0) (get_or ys (i % length ys) 0)
    candidate_is = ap (candidate z) (sym (div-add-mod' i (length ys))) ∙ candidate_at (i / length ys) (i % length ys) row_below column_below

-- each promise lies within what relies on it
same_inside : (b : Bool) → implies b b ≡ true
same_inside true = refl
same_inside false = refl

pub signs : (p k0 k1 : ℕ) (c : Sides ℕ) → described width p k0 c.first ≡ true → described width p k1 c.second ≡ true → signing_fault p k0 k1 (terms_of c) ≡ None
signs p k0 k1 c h l =
    of_none _ _ (ap (option_map (about 0)) (unless_none (described width p k0 c.first && described width p k1 c.second) (numbers NotTerms) (and_from _ _ h l)))
    (of_none _ _ (ap (option_map (about 1)) (unless_none (described width p k1 c.second && described width p k0 c.first) (numbers NotTerms) (and_from _ _ l h)))
    (no_gap p _ _ (record { first = λ q j m. same_inside (has width c.first q j); second = λ q j m. same_inside (has width c.second q j) })))

-- so there is a deal on them
on_described : (z : Sizes) (c : Sides ℕ) → described width z.phases z.signals.first c.first ≡ true → described width z.phases z.signals.second c.second ≡ true → (d : Deal) × Dealt z (terms_of c) d
on_described z c h l = (
  record {
    sizes = z;
    terms = terms_of c;
    described0 = and_from _ _ h l;
    described1 = and_from _ _ l h;
    kept0 = λ q j m. same_inside (has width c.first q j);
    kept1 = λ q j m. same_inside (has width c.second q j);
  },
  record { sizes = refl; terms = refl },
)

module _ (z : Sizes) (i : ℕ) (h : i < how_many z) where
  abbrev xs : List ℕ
  xs = promises z.phases z.signals.first

  abbrev ys : List ℕ
  ys = promises z.phases z.signals.second

  pub candidate_deal : (d : Deal) × Dealt z (terms_of (candidate z i)) d
  candidate_deal = rw (candidate_is z xs ys refl refl i h) (on_described z (both (get_or xs (i / length ys) 0) (get_or ys (i % length ys) 0))
      (promise_described z.phases z.signals.first (i / length ys) 0 (row_below z xs ys refl refl i h)) (promise_described z.phases z.signals.second (i % length ys) 0 (column_below z xs ys refl refl i h)))

-- a candidate's promises are as described, so that signing them succeeds
pub candidate_signs : (z : Sizes) (i : ℕ) → i < how_many z → signing_fault z.phases z.signals.first z.signals.second (terms_of (candidate z i)) ≡ None
candidate_signs z i h =
    let xs = promises z.phases z.signals.first in
    let ys = promises z.phases z.signals.second in
    rw (candidate_is z xs ys refl refl i h) (signs z.phases z.signals.first z.signals.second (both (get_or xs (i / length ys) 0) (get_or ys (i % length ys) 0))
    (promise_described z.phases z.signals.first (i / length ys) 0 (row_below z xs ys refl refl i h)) (promise_described z.phases z.signals.second (i % length ys) 0 (column_below z xs ys refl refl i h)))

pub signed_ok : (r : Result Deal Unsigned) → refused r ≡ None → IsOk r
signed_ok (Ok d) e = search rules
signed_ok (Err f) e = absurd (not_some e)

-- a product with some is beyond what its factor is beyond
beyond : (a b n : ℕ) → n < a → 1 ≤ b → n < a * b
beyond a zero n h l = absurd (omega arith)
beyond a (suc b) n h l = omega (arith, h, mul-suc a b)

-- too many promises of one side make too many candidates, since the other has some
module _ (z : Sizes) where
  some0 : 1 ≤ length (promises z.phases z.signals.first)
  some0 = some_promises z.signals.first z.few0 z.some0 z.phases

  some1 : 1 ≤ length (promises z.phases z.signals.second)
  some1 = some_promises z.signals.second z.few1 z.some1 z.phases

  count : how_many z ≡ length (promises z.phases z.signals.first) * length (promises z.phases z.signals.second)
  count = length_pairs (promises z.phases z.signals.first) (promises z.phases z.signals.second)

  pub many_first : (n : ℕ) → n < length (promises z.phases z.signals.first) → false ≡ leb (how_many z) n
  many_first n h = sym (lt-leb (how_many z) n (omega (arith, count, beyond (length (promises z.phases z.signals.first)) (length (promises z.phases z.signals.second)) n h some1)))

  pub many_second : (n : ℕ) → n < length (promises z.phases z.signals.second) → false ≡ leb (how_many z) n
  many_second n h = sym (lt-leb (how_many z) n (omega (arith, count, beyond (length (promises z.phases z.signals.second)) (length (promises z.phases z.signals.first)) n h some0, mul_comm (length (promises z.phases z.signals.first)) (length (promises z.phases z.signals.second)))))

  pub few_product : (xs ys : List ℕ) (n : ℕ) → xs ≡ promises z.phases z.signals.first → ys ≡ promises z.phases z.signals.second → leb (length xs * length ys) n ≡ leb (how_many z) n
  few_product xs ys n e f = ap (λ i. leb i n) (sym (count_is z xs ys e f))
