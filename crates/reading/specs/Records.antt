-- Controller records: n (two bytes), P, k, then n × P choices of one byte and n × P ranks of two bytes.
use Rattle.std.specs.Prelude.{◌≡◌, ℕ, ◌+◌, ◌*◌, ◌<◌, ◌≤◌, Bool, cond, not, ◌&&◌, ◌||◌, ◌⊎◌, List, length, take, drop, Option, ◌==◌, nat_le, nat_lt}
use Rattle.reading.specs.declared.records.Record.{Record}
use Rattle.reading.specs.Firsts.{first_some, first_below, unless, highest_below}
use Rattle.reading.specs.Bytes.{byte, pair, within}
use Rattle.reading.specs.Faults.{Fault, fault, length_place}

-- what a record says; choices and ranks as the bytes that hold them
pub record Parts : Type 0 where
  pub states : ℕ
  pub phases : ℕ
  pub signals : ℕ
  pub choices : List ℕ
  pub ranks : List ℕ

-- the number of positions that bytes speak of
abbrev pub size_in : List ℕ → ℕ
size_in xs = pair xs 0 * byte xs 2

-- the record that bytes hold
abbrev pub parts_in : List ℕ → Parts
parts_in xs = record {
  states = pair xs 0;
  phases = byte xs 2;
  signals = byte xs 3;
  choices = take (size_in xs) (drop 4 xs);
  ranks = drop (size_in xs) (drop 4 xs);
}

-- the record that was read
abbrev pub parts_of : Record → Parts
parts_of r = record {
  states = r.states;
  phases = r.phases;
  signals = r.signals;
  choices = r.choices.now;
  ranks = r.ranks.now;
}

-- whether a record has a position for state s in phase p, which is s × P + p
abbrev pub inside : Parts → ℕ → ℕ → Bool
inside r s p = nat_lt s r.states && nat_lt p r.phases

-- its choice; out of range that of a position that is not kept
abbrev pub choice_at : Parts → ℕ → ℕ → ℕ
choice_at r s p = cond (inside r s p) (byte r.choices (s * r.phases + p)) 255

-- its rank, in the same way
abbrev pub rank_at : Parts → ℕ → ℕ → ℕ
rank_at r s p = cond (inside r s p) (pair r.ranks (2 * (s * r.phases + p))) 65535

-- a position is not kept if choice and rank are both absent
abbrev pub kept : ℕ → ℕ → Bool
kept choice rank = not (choice == 255 && rank == 65535)

-- the rank at position i if it is kept, else 0
abbrev pub kept_rank : Parts → ℕ → ℕ
kept_rank r i = cond (kept (byte r.choices i) (pair r.ranks (2 * i))) (pair r.ranks (2 * i)) 0

-- the bound: the largest kept rank, 0 where nothing is kept
abbrev pub bound_of : Parts → ℕ
bound_of r = highest_below (r.states * r.phases) (kept_rank r)

-- a field out of range, in field order
abbrev pub field_fault : ℕ → ℕ → ℕ → Option Fault
field_fault n p k =
    first_some (unless (within 1 256 n) (fault 2 0))
    (first_some (unless (within 1 8 p) (fault 2 2))
    (unless (within 1 4 k) (fault 2 3)))

-- a choice is a signal or absent
abbrev pub choice_fault : List ℕ → ℕ → ℕ → Option Fault
choice_fault choices k i = unless (nat_lt (byte choices i) k || byte choices i == 255) (fault 4 (4 + i))

-- too short, a field, the length
abbrev pub head_fault : List ℕ → Option Fault
head_fault xs =
    first_some (unless (nat_le 4 (length xs)) (fault 1 (length_place xs)))
    (first_some (field_fault (pair xs 0) (byte xs 2) (byte xs 3))
    (unless (length xs == 4 + 3 * size_in xs) (fault 3 (length_place xs))))

-- the first fault of a record
abbrev pub record_fault : List ℕ → Option Fault
record_fault xs = first_some (head_fault xs) (first_below (size_in xs) (choice_fault (parts_in xs).choices (byte xs 3)))

-- a lawful record, in its own words
pub record Lawful (xs : List ℕ) : Type 0 where
  pub fixed : 4 ≤ length xs
  pub some_states : 1 ≤ pair xs 0
  pub few_states : pair xs 0 ≤ 256
  pub some_phases : 1 ≤ byte xs 2
  pub few_phases : byte xs 2 ≤ 8
  pub some_signals : 1 ≤ byte xs 3
  pub few_signals : byte xs 3 ≤ 4
  pub long : length xs ≡ 4 + 3 * (pair xs 0 * byte xs 2)
  pub choices : (i : ℕ) → i < size_in xs → (byte (parts_in xs).choices i < byte xs 3) ⊎ (byte (parts_in xs).choices i ≡ 255)
