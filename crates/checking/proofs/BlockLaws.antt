-- Lists in blocks, each of which is a list by so many units more.
use Rattle.std.proofs.Common.{◌≡◌, ℕ, zero, suc, ◌+◌, ◌*◌, ◌<◌, ◌≤◌, List, [], ◌∷◌, ◌++◌, length, map, take, get_or, refl, sym, ap, ◌∙◌, suc-mul, zero-mul, one-mul, mul-le-mul_right, arith}
use mathlib.Core.Path.{fun_ext}
use Rattle.std.proofs.Math.Seq.{take-append_seam}
use Rattle.std.proofs.lemmas.Simd.{map-map}
use Rattle.std.proofs.lemmas.List.{append-nil, length-append, length-map, get_or-map, ext_get_or}

-- a list so many times, each time by a unit more
abbrev pub blocks : ℕ → List ℕ → ℕ → List ℕ
blocks unit base zero = []
blocks unit base (suc d) = blocks unit base d ++ map (λ x. suc d * unit + x) base

pub length_blocks : (unit : ℕ) (base : List ℕ) (d : ℕ) → length (blocks unit base d) ≡ d * length base
length_blocks unit base zero = sym (zero-mul (length base))
length_blocks unit base (suc d) =
    let e : d * length base + length base ≡ suc d * length base = sym (suc-mul d (length base)) in
    length-append (blocks unit base d) _ ∙ ap (λ n. n + length (map (λ x. suc d * unit + x) base)) (length_blocks unit base d)
    ∙ ap (λ n. d * length base + n) (length-map base _) ∙ e

-- the first so many numbers have a unit more, the others are as they were
pub record Raised (unit : ℕ) (old new : List ℕ) (n : ℕ) : Type 0 where
  pub done : (i : ℕ) → i < n → get_or new i 0 ≡ unit + get_or old i 0
  pub rest : (i : ℕ) → n ≤ i → get_or new i 0 ≡ get_or old i 0

-- raised all through, a list is its one block
pub raised_block : (unit : ℕ) (old new : List ℕ) → length new ≡ length old → ((i : ℕ) → i < length old → get_or new i 0 ≡ unit + get_or old i 0) → new ≡ blocks unit old 1
raised_block unit old new e h = ext_get_or 0 new (map (λ x. 1 * unit + x) old) (e ∙ sym (length-map old _)) (λ i l.
    let m : i < length old = omega (arith, e, l) in
    let u : unit ≡ 1 * unit = omega arith in
    h i m ∙ ap (λ n. n + get_or old i 0) u ∙ sym (get_or-map (λ x. 1 * unit + x) old i 0 0 m))

take_front : (n : ℕ) (xs ys : List ℕ) → n ≤ length xs → take n (xs ++ ys) ≡ take n xs
take_front zero xs ys h = refl
take_front (suc n) [] ys h = absurd (omega arith)
take_front (suc n) (x ∷ xs) ys h = ap (λ zs. x ∷ zs) (take_front n xs ys (omega arith))

-- the first block at the head of several
pub first_block : (unit : ℕ) (base : List ℕ) (d : ℕ) → take (length base) (blocks unit base (suc d)) ≡ map (λ x. 1 * unit + x) base
first_block unit base zero =
    ap (λ n. take n (map (λ x. 1 * unit + x) base)) (sym (length-map base (λ x. 1 * unit + x)))
    ∙ ap (take (length (map (λ x. 1 * unit + x) base))) (sym (append-nil (map (λ x. 1 * unit + x) base)))
    ∙ take-append_seam (map (λ x. 1 * unit + x) base) []
first_block unit base (suc d) =
    take_front (length base) (blocks unit base (suc d)) _ (omega (arith, length_blocks unit base (suc d), suc-mul d (length base))) ∙ first_block unit base d

-- the next block is the first by so many units more
block_after : (unit : ℕ) (base : List ℕ) (d : ℕ) →
    blocks unit base (suc d) ++ map (λ x. suc d * unit + x) (take (length base) (blocks unit base (suc d))) ≡ blocks unit base (suc (suc d))
block_after unit base d =
    ap (λ xs. blocks unit base (suc d) ++ map (λ x. suc d * unit + x) xs) (first_block unit base d)
    ∙ ap (λ xs. blocks unit base (suc d) ++ xs) (map-map (λ x. suc d * unit + x) (λ x. 1 * unit + x) base ∙ ap (λ (f : ℕ → ℕ). map f base) (fun_ext (λ x. one_more x)))
  where
    one_more : (x : ℕ) → suc d * unit + (1 * unit + x) ≡ suc (suc d) * unit + x
    one_more x = let e : suc (suc d) * unit ≡ suc d * unit + unit = suc-mul (suc d) unit in omega (arith, e)

pub next_block : (unit : ℕ) (base : List ℕ) (d n : ℕ) → 1 ≤ d → n ≡ length base →
    blocks unit base d ++ map (λ x. d * unit + x) (take n (blocks unit base d)) ≡ blocks unit base (d + 1)
next_block unit base zero n h e = absurd (omega arith)
next_block unit base (suc d) n h e =
    let s : suc (suc d) ≡ suc d + 1 = omega arith in
    ap (λ i. blocks unit base (suc d) ++ map (λ x. suc d * unit + x) (take i (blocks unit base (suc d)))) e ∙ block_after unit base d ∙ ap (blocks unit base) s

pub block_many : (unit : ℕ) (base : List ℕ) (d : ℕ) → 1 ≤ d → length base ≤ length (blocks unit base d)
block_many unit base d h = omega (arith, length_blocks unit base d, mul-le-mul_right (length base) h, one-mul (length base))
