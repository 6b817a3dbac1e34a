-- The faults of reading: number and place.
use Rattle.std.specs.Prelude.{ℕ, ◌+◌, min, List, ◌++◌, length, codes, decimal, Some, None, Ok, Err, Option, Result, nat_lt}
use Rattle.reading.specs.Firsts.{unless}
use Rattle.reading.specs.Bytes.{byte}
use Rattle.reading.specs.declared.faults.ReadFault.{ReadFault}
use Rattle.reading.specs.declared.faults.ReadFault.TheVariants.{Short, Field, Size, Entry, Order, Clash, TooLarge}

-- a refusal's number, and the place of the first byte that is wrong
pub record Fault : Type 0 where
  pub number : ℕ
  pub place : ℕ

-- a fault by its number and its place
abbrev pub fault : ℕ → ℕ → Fault
fault n at = record { number = n; place = at }

-- where a fault of the whole length is placed: the length, at most 65,535
abbrev pub length_place : List ℕ → ℕ
length_place xs = min (length xs) 65535

-- number and place of each case; every promise about faults reads this definition
abbrev pub numbers : ReadFault → Fault
numbers (Short at) = fault 1 at
numbers (Field at) = fault 2 at
numbers (Size at) = fault 3 at
numbers (Entry at) = fault 4 at
numbers (Order at) = fault 5 at
numbers (Clash at) = fault 6 at
numbers TooLarge = fault 7 0

-- a fault in print
abbrev pub printed : Fault → List ℕ
printed f = codes "refused " ++ (decimal f.number ++ (codes " at byte " ++ decimal f.place))

-- the fault that an answer tells, none where it has a value
abbrev pub told : {A : Type 0} → Result A ReadFault → Option Fault
told (Ok x) = None
told (Err f) = Some (numbers f)

-- an entry that is not below its limit, placed from an offset on
abbrev pub entry_fault : List ℕ → ℕ → ℕ → ℕ → Option Fault
entry_fault entries limit offset i = unless (nat_lt (byte entries i) limit) (fault 4 (offset + i))
