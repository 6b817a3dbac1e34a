-- Machine sheets: n (two bytes), k, m, start, E (two bytes each), n labels, then E keys and E targets of two bytes each.
use Rattle.std.specs.Prelude.{◌≡◌, ℕ, ◌+◌, ◌-◌, ◌*◌, ◌<◌, ◌≤◌, Bool, ◌&&◌, ◌||◌, ◌⊎◌, List, length, take, drop, None, Option, ◌==◌, nat_le, nat_lt}
use Rattle.reading.specs.declared.machine_sheet.MachineSheet.{MachineSheet}
use Rattle.reading.specs.Firsts.{first_some, first_below, unless}
use Rattle.reading.specs.Bytes.{byte, pair, within}
use Rattle.reading.specs.Faults.{Fault, fault, length_place, entry_fault}

-- what a machine sheet says; labels, keys and targets as the bytes that hold them
pub record Sheet : Type 0 where
  pub states : ℕ
  pub own : ℕ
  pub partner : ℕ
  pub start : ℕ
  pub moves : ℕ
  pub labels : List ℕ
  pub keys : List ℕ
  pub targets : List ℕ

-- the sheet that bytes hold
abbrev pub sheet_in : List ℕ → Sheet
sheet_in xs = record {
  states = pair xs 0;
  own = byte xs 2;
  partner = byte xs 3;
  start = pair xs 4;
  moves = pair xs 6;
  labels = take (pair xs 0) (drop 8 xs);
  keys = take (2 * pair xs 6) (drop (pair xs 0) (drop 8 xs));
  targets = drop (2 * pair xs 6) (drop (pair xs 0) (drop 8 xs));
}

-- the sheet that was read
abbrev pub sheet_of : MachineSheet → Sheet
sheet_of s = record {
  states = s.listed.frame.states;
  own = s.listed.frame.own;
  partner = s.listed.frame.partner;
  start = s.listed.frame.start;
  moves = s.listed.moves;
  labels = s.listed.labels.now;
  keys = s.listed.keys.now;
  targets = s.listed.targets.now;
}

-- the sizes that stand open in a sheet are those that were read
pub record SizesRead (s : MachineSheet) : Type 0 where
  pub states : s.states ≡ (sheet_of s).states
  pub own : s.own ≡ (sheet_of s).own
  pub partner : s.partner ≡ (sheet_of s).partner
  pub start : s.start ≡ (sheet_of s).start
  pub moves : s.moves ≡ (sheet_of s).moves

-- the key of a move: (s × k + own) × m + partner
abbrev pub key_at : Sheet → ℕ → ℕ
key_at s i = pair s.keys (2 * i)

-- the state that a move leads to
abbrev pub target_at : Sheet → ℕ → ℕ
target_at s i = pair s.targets (2 * i)

-- where its key stands in the sheet
abbrev pub key_place : Sheet → ℕ → ℕ
key_place s i = 8 + s.states + 2 * i

-- and where that stands
abbrev pub target_place : Sheet → ℕ → ℕ
target_place s i = 8 + s.states + 2 * s.moves + 2 * i

-- a move comes before another: by key, then by target
abbrev pub before : ℕ → ℕ → ℕ → ℕ → Bool
before key target key' target' = nat_lt key key' || (key == key' && nat_lt target target')

-- a size or a start out of range, in field order
abbrev pub frame_fault : ℕ → ℕ → ℕ → ℕ → Option Fault
frame_fault n k m start =
    first_some (unless (within 1 256 n) (fault 2 0))
    (first_some (unless (within 1 4 k) (fault 2 2))
    (first_some (unless (within 1 4 m) (fault 2 3))
    (unless (nat_lt start n) (fault 2 4))))

-- a field out of range: the number of moves comes last
abbrev pub field_fault : ℕ → ℕ → ℕ → ℕ → ℕ → Option Fault
field_fault n k m start moves = first_some (frame_fault n k m start) (unless (nat_le moves 4096) (fault 2 6))

-- labels are 0 to 7, from byte 8 on
abbrev pub label_fault : Sheet → ℕ → Option Fault
label_fault s = entry_fault s.labels 8 8

-- of a move: its key, its target, its order after the move before it
abbrev pub move_fault : Sheet → ℕ → Option Fault
move_fault s i =
    first_some (unless (nat_lt (key_at s i) (s.states * s.own * s.partner)) (fault 4 (key_place s i)))
    (first_some (unless (nat_lt (target_at s i) s.states) (fault 4 (target_place s i)))
    (unless (i == 0 || before (key_at s (i - 1)) (target_at s (i - 1)) (key_at s i) (target_at s i)) (fault 5 (key_place s i))))

-- too short, a field, the length
abbrev pub head_fault : List ℕ → Option Fault
head_fault xs =
    first_some (unless (nat_le 8 (length xs)) (fault 1 (length_place xs)))
    (first_some (field_fault (pair xs 0) (byte xs 2) (byte xs 3) (pair xs 4) (pair xs 6))
    (unless (length xs == 8 + pair xs 0 + 4 * pair xs 6) (fault 3 (length_place xs))))

-- all labels, then move by move
abbrev pub body_fault : Sheet → Option Fault
body_fault s = first_some (first_below (length s.labels) (label_fault s)) (first_below s.moves (move_fault s))

-- the first fault of a machine sheet
abbrev pub machine_fault : List ℕ → Option Fault
machine_fault xs = first_some (head_fault xs) (body_fault (sheet_in xs))

-- the fields of a sheet, each in its range
pub record Ranged (n k m start moves : ℕ) : Type 0 where
  pub some_states : 1 ≤ n
  pub few_states : n ≤ 256
  pub some_own : 1 ≤ k
  pub few_own : k ≤ 4
  pub some_partner : 1 ≤ m
  pub few_partner : m ≤ 4
  pub starts : start < n
  pub few_moves : moves ≤ 4096

-- a sheet with fields in range and parts of the lengths that they say
pub record Shaped (s : Sheet) : Type 0 where
  pub ranged : Ranged s.states s.own s.partner s.start s.moves
  pub labelled : length s.labels ≡ s.states
  pub keyed : length s.keys ≡ 2 * s.moves
  pub targeted : length s.targets ≡ 2 * s.moves

-- a sheet cut from bytes without a fault of fields and length
pub record Headed (xs : List ℕ) (s : Sheet) : Type 0 where
  pub faultless : head_fault xs ≡ None
  pub held : s ≡ sheet_in xs
  pub shaped : Shaped s

-- a move comes before another: by key, then by target
abbrev pub Before : Sheet → ℕ → ℕ → Type 0
Before s i j = (key_at s i < key_at s j) ⊎ ((key_at s i ≡ key_at s j) × (target_at s i < target_at s j))

-- labels and moves in range, the moves strictly ascending
pub record Listed (s : Sheet) : Type 0 where
  pub labels : (i : ℕ) → i < length s.labels → byte s.labels i ≤ 7
  pub keys : (i : ℕ) → i < s.moves → key_at s i < s.states * s.own * s.partner
  pub targets : (i : ℕ) → i < s.moves → target_at s i < s.states
  pub ascending : (i j : ℕ) → i < j → j < s.moves → Before s i j

-- a lawful machine sheet, in its own words
pub record Lawful (xs : List ℕ) : Type 0 where
  pub fixed : 8 ≤ length xs
  pub fields : Ranged (pair xs 0) (byte xs 2) (byte xs 3) (pair xs 4) (pair xs 6)
  pub long : length xs ≡ 8 + pair xs 0 + 4 * pair xs 6
  pub entries : Listed (sheet_in xs)
