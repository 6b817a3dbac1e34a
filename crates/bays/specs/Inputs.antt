-- One input for a bay: five two-byte lengths, then the five sheets, one behind the other.
use Rattle.std.specs.Prelude.{ℕ, ◌+◌, ◌*◌, ◌&&◌, List, length, take, drop, Option, ◌==◌, nat_le}
use Rattle.reading.specs.Firsts.{first_some, unless}
use Rattle.reading.specs.Bytes.{pair}
use Rattle.reading.specs.Faults.{Fault, fault, length_place}
use Rattle.bays.specs.declared.input.Input.{Input}

-- the sheets as bytes: machine and rule sheet of side 0, machine and rule sheet of side 1, phase table
pub record Parts : Type 0 where
  pub machine0 : List ℕ
  pub rule0 : List ℕ
  pub machine1 : List ℕ
  pub rule1 : List ℕ
  pub table : List ℕ

-- the length that is given for part i
abbrev pub size_in : List ℕ → ℕ → ℕ
size_in xs i = pair xs (2 * i)

-- the length that the five lengths ask for
abbrev pub total : List ℕ → ℕ
total xs = 10 + size_in xs 0 + size_in xs 1 + size_in xs 2 + size_in xs 3 + size_in xs 4

-- too short for the lengths; of another length than they make, or longer than 40,000 bytes
abbrev pub input_fault : List ℕ → Option Fault
input_fault xs =
    first_some (unless (nat_le 10 (length xs)) (fault 1 (length_place xs)))
    (unless (length xs == total xs && nat_le (total xs) 40000) (fault 3 (length_place xs)))

-- the sheets that bytes hold
abbrev pub parts_in : List ℕ → Parts
parts_in xs = record {
  machine0 = take (size_in xs 0) (drop 10 xs);
  rule0 = take (size_in xs 1) (drop (size_in xs 0) (drop 10 xs));
  machine1 = take (size_in xs 2) (drop (size_in xs 1) (drop (size_in xs 0) (drop 10 xs)));
  rule1 = take (size_in xs 3) (drop (size_in xs 2) (drop (size_in xs 1) (drop (size_in xs 0) (drop 10 xs))));
  table = drop (size_in xs 3) (drop (size_in xs 2) (drop (size_in xs 1) (drop (size_in xs 0) (drop 10 xs))));
}

-- the sheets that were cut
abbrev pub parted : Input → Parts
parted i = record {
  machine0 = i.machines.first.now;
  rule0 = i.rules.first.now;
  machine1 = i.machines.second.now;
  rule1 = i.rules.second.now;
  table = i.table.now;
}
