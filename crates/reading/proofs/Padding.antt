-- Lists with zeros behind them.
use Rattle.std.proofs.Common.{◌≡◌, ℕ, zero, suc, ◌-◌, ◌<◌, List, [], ◌∷◌, ◌++◌, length, get_or, drop, replicate, ap, ◌∙◌, arith}
use Rattle.std.proofs.lemmas.List.{drop-replicate, append-nil}
use Rattle.reading.specs.Bytes.{padded}

pub zeros_below : (n k : ℕ) → 0 < k → (i : ℕ) → get_or (replicate n 0) i 0 < k
zeros_below zero k h i = omega arith
zeros_below (suc n) k h zero = omega arith
zeros_below (suc n) k h (suc i) = zeros_below n k h i

-- what is below k in a list stays so with zeros behind it
pub appended_below : (xs : List ℕ) (m k : ℕ) → 0 < k → ((i : ℕ) → i < length xs → get_or xs i 0 < k) → (i : ℕ) → get_or (xs ++ replicate m 0) i 0 < k
appended_below [] m k h each i = zeros_below m k h i
appended_below (x ∷ xs) m k h each zero = each 0 (omega arith)
appended_below (x ∷ xs) m k h each (suc i) = appended_below xs m k h (λ j l. each (suc j) (omega arith)) i

-- what is put to the front of zeros
pub front_of_zeros : (n : ℕ) (xs : List ℕ) → xs ++ drop (length xs) (replicate n 0) ≡ padded n xs
front_of_zeros n xs = ap (λ zs. xs ++ zs) (drop-replicate (length xs) n 0)

-- a list that is long enough stays
pub padded_whole : (n : ℕ) (xs : List ℕ) → length xs ≡ n → padded n xs ≡ xs
padded_whole n xs e =
    let z : n - length xs ≡ 0 = omega arith in
    ap (λ m. xs ++ replicate m 0) z ∙ append-nil xs

-- an array that holds numbers below k, zeros behind them
pub closed_from : (n k : ℕ) (xs ys : List ℕ) → ys ≡ padded n xs → 0 < k → ((i : ℕ) → i < length xs → get_or xs i 0 < k) → (i : ℕ) → get_or ys i 0 < k
closed_from n k xs ys e h each i = rw e (appended_below xs (n - length xs) k h each i)

-- zeros are zeros
pub zeros_are : (n i : ℕ) → ◌≡◌ {A = ℕ} (get_or (replicate n 0) i 0) 0
zeros_are n i = omega (arith, zeros_below n 1 (omega arith) i)
