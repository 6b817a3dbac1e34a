-- The first of several answers that may be there.
use Rattle.std.specs.Prelude.{ℕ, zero, suc, max, Bool, true, false, ◌||◌, Some, None, Option}

-- the left one if it is there, else the right one
abbrev pub first_some : {A : Type 0} → Option A → Option A → Option A
first_some (Some x) later = Some x
first_some None later = later

-- the value of f at the lowest index below n where there is one
abbrev pub first_below : {A : Type 0} → ℕ → (ℕ → Option A) → Option A
first_below zero f = None
first_below (suc n) f = first_some (first_below n f) (f n)

-- x unless the test holds
abbrev pub unless : {A : Type 0} → Bool → A → Option A
unless true x = None
unless false x = Some x

-- the answer if the test holds, else none
abbrev pub where_so : {A : Type 0} → Bool → Option A → Option A
where_so true o = o
where_so false o = None

-- whether the test holds at some index below n
abbrev pub some_below : ℕ → (ℕ → Bool) → Bool
some_below zero f = false
some_below (suc n) f = some_below n f || f n

-- the largest value of f below n, and 0 where there is none
abbrev pub highest_below : ℕ → (ℕ → ℕ) → ℕ
highest_below zero f = 0
highest_below (suc n) f = max (highest_below n f) (f n)
