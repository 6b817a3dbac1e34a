-- Phase tables: P, k0, k1, then P × k0 × k1 entries.
use Rattle.std.specs.Prelude.{◌≡◌, ℕ, ◌+◌, ◌*◌, ◌<◌, ◌≤◌, cond, ◌&&◌, List, length, drop, replicate, Option, ◌==◌, nat_le, nat_lt}
use Rattle.reading.specs.declared.phase_table.PhaseTable.{PhaseTable}
use Rattle.reading.specs.Firsts.{first_some, first_below, unless}
use Rattle.reading.specs.Bytes.{byte, padded}
use Rattle.reading.specs.Sizes.{field_fault}
use Rattle.reading.specs.Faults.{Fault, fault, length_place, entry_fault}

-- what a phase table says; its entries lie in 128 bytes, zeros behind the last
pub record Table : Type 0 where
  pub phases : ℕ
  pub signals0 : ℕ
  pub signals1 : ℕ
  pub entries : List ℕ

-- the table that bytes hold
abbrev pub table_in : List ℕ → Table
table_in xs = record {
  phases = byte xs 0;
  signals0 = byte xs 1;
  signals1 = byte xs 2;
  entries = padded 128 (drop 3 xs);
}

-- the table in a place
abbrev pub table_of : PhaseTable → Table
table_of t = record {
  phases = t.sizes.phases;
  signals0 = t.sizes.signals.first;
  signals1 = t.sizes.signals.second;
  entries = t.entries;
}

-- what a place holds at first: one phase, one signal each way, entry 0
abbrev pub single : Table
single = record { phases = 1; signals0 = 1; signals1 = 1; entries = replicate 128 0 }

-- the phase after phase p, signal a of side 0 and signal b of side 1; 0 where one of them is out of range
abbrev pub next_phase : Table → ℕ → ℕ → ℕ → ℕ
next_phase t p a b =
    cond (nat_lt p t.phases && (nat_lt a t.signals0 && nat_lt b t.signals1))
    (byte t.entries ((p * t.signals0 + a) * t.signals1 + b))
    0

-- the number of entries
abbrev pub size_in : List ℕ → ℕ
size_in xs = byte xs 0 * byte xs 1 * byte xs 2

-- too short, a field, the length
abbrev pub head_fault : List ℕ → Option Fault
head_fault xs =
    first_some (unless (nat_le 3 (length xs)) (fault 1 (length_place xs)))
    (first_some (field_fault (byte xs 0) (byte xs 1) (byte xs 2))
    (unless (length xs == 3 + size_in xs) (fault 3 (length_place xs))))

-- the first fault of a phase table; entries are phases, from byte 3 on
abbrev pub phase_fault : List ℕ → Option Fault
phase_fault xs = first_some (head_fault xs) (first_below (length (drop 3 xs)) (entry_fault (drop 3 xs) (byte xs 0) 3))

-- a lawful phase table, in its own words
pub record Lawful (xs : List ℕ) : Type 0 where
  pub fixed : 3 ≤ length xs
  pub some_phases : 1 ≤ byte xs 0
  pub few_phases : byte xs 0 ≤ 8
  pub some0 : 1 ≤ byte xs 1
  pub few0 : byte xs 1 ≤ 4
  pub some1 : 1 ≤ byte xs 2
  pub few1 : byte xs 2 ≤ 4
  pub long : length xs ≡ 3 + byte xs 0 * byte xs 1 * byte xs 2
  pub entries : (i : ℕ) → i < length (drop 3 xs) → byte (drop 3 xs) i < byte xs 0
