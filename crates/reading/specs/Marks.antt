-- Sets of states as bits: bit i of byte j is state 8 × j + i.
use Rattle.std.specs.Prelude.{◌≡◌, ℕ, ◌/◌, ◌%◌, Bool, true, false, ◌&&◌, List, nat_lt}
use Rattle.reading.specs.Bytes.{byte, bit}

-- whether a state is in the set that bytes hold
abbrev pub marked : List ℕ → ℕ → Bool
marked xs s = bit (byte xs (s / 8)) (s % 8)

-- if the first holds, so does the second
abbrev pub implies : Bool → Bool → Bool
implies true y = y
implies false y = true

-- only states below n are in the set
abbrev pub Inside : ℕ → List ℕ → Type 0
Inside n xs = (s : ℕ) → implies (marked xs s) (nat_lt s n) ≡ true

-- no state is in both sets
abbrev pub Apart : List ℕ → List ℕ → Type 0
Apart xs ys = (s : ℕ) → (marked xs s && marked ys s) ≡ false
