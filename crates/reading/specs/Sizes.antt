-- The sizes of a bay: phases, and the signals of both sides.
use Rattle.std.specs.Prelude.{ℕ, Option}
use Rattle.reading.specs.Firsts.{first_some, unless}
use Rattle.reading.specs.Bytes.{within}
use Rattle.reading.specs.Faults.{Fault, fault}

-- a field out of range, in field order
abbrev pub field_fault : ℕ → ℕ → ℕ → Option Fault
field_fault p k0 k1 =
    first_some (unless (within 1 8 p) (fault 2 0))
    (first_some (unless (within 1 4 k0) (fault 2 1))
    (unless (within 1 4 k1) (fault 2 2)))
