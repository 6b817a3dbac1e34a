-- Mark sheets for n states: 32 bytes of forbidden states, then 32 bytes of goals.
use Rattle.std.specs.Prelude.{◌≡◌, ℕ, ◌-◌, ◌*◌, ◌%◌, ◌^◌, ◌<◌, true, List, length, take, drop, replicate, Option, ◌==◌, ◌≢◌, bit_and, nat_lt}
use Rattle.reading.specs.declared.mark_sheet.MarkSheet.{MarkSheet}
use Rattle.reading.specs.Firsts.{first_some, first_below, unless}
use Rattle.reading.specs.Bytes.{byte}
use Rattle.reading.specs.Marks.{marked}
use Rattle.reading.specs.Faults.{Fault, fault, length_place}

-- what a mark sheet says
pub record Sets : Type 0 where
  pub states : ℕ
  pub forbidden : List ℕ
  pub goals : List ℕ

-- the marks that bytes hold, for n states
abbrev pub sets_in : ℕ → List ℕ → Sets
sets_in n xs = record { states = n; forbidden = take 32 xs; goals = drop 32 xs }

-- the marks that were read
abbrev pub sets_of : MarkSheet → Sets
sets_of m = record { states = m.states; forbidden = m.forbidden; goals = m.goals }

-- no marks at all
abbrev pub unmarked : ℕ → Sets
unmarked n = record { states = n; forbidden = replicate 32 0; goals = replicate 32 0 }

-- a byte holds eight states; those from n up are out of range
abbrev pub stray_fault : ℕ → List ℕ → ℕ → Option Fault
stray_fault n xs j = unless (nat_lt (byte xs j) (2 ^ (n - 8 * (j % 32)))) (fault 4 j)

-- a forbidden byte that shares a bit with the byte of goals for the same states
abbrev pub clash_fault : List ℕ → List ℕ → ℕ → Option Fault
clash_fault forbidden goals j = unless (bit_and (byte forbidden j) (byte goals j) == 0) (fault 6 j)

-- the first fault of a mark sheet: the length, any byte out of range, then any state in both sets
abbrev pub mark_fault : ℕ → List ℕ → Option Fault
mark_fault n xs =
    first_some (unless (length xs == 64) (fault 3 (length_place xs)))
    (first_some (first_below (length xs) (stray_fault n xs))
    (first_below (length (take 32 xs)) (clash_fault (take 32 xs) (drop 32 xs))))

-- a lawful mark sheet, in its own words
pub record Lawful (n : ℕ) (xs : List ℕ) : Type 0 where
  pub long : length xs ≡ 64
  pub forbidden : (s : ℕ) → marked (take 32 xs) s ≡ true → s < n
  pub goals : (s : ℕ) → marked (drop 32 xs) s ≡ true → s < n
  pub apart : (s : ℕ) → marked (take 32 xs) s ≡ true → marked (drop 32 xs) s ≢ true
