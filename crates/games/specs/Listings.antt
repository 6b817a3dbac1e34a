-- A machine by its list of moves, as a machine sheet has them.
use Rattle.std.specs.Prelude.{◌≡◌, ℕ, ◌+◌, ◌*◌, ◌<◌, Bool, true, false, cond, ◌&&◌, ◌||◌, List, [], ◌∷◌, length, map, ◌==◌, nat_lt, slice_index_or}
use Rattle.std.specs.List.{range_with_len}
use Rattle.reading.specs.declared.machine_sheet.Move.{Move}
use Rattle.reading.specs.Bytes.{byte}
use Rattle.reading.specs.MachineSheets.{Sheet, sheet_in, key_at, target_at, before}
use Rattle.games.specs.Machines.{Model, in_range}

-- sizes, start, labels and moves, one behind the other
pub record Listing : Type 0 where
  pub states : ℕ
  pub own : ℕ
  pub partner : ℕ
  pub start : ℕ
  pub labels : List ℕ
  pub moves : List Move

-- a move by its place in a sheet
abbrev pub move_at : Sheet → ℕ → Move
move_at s i = record { key = key_at s i; target = target_at s i }

-- what a machine sheet lists
abbrev pub listing_of : Sheet → Listing
listing_of s = record {
  states = s.states;
  own = s.own;
  partner = s.partner;
  start = s.start;
  labels = s.labels;
  moves = map (move_at s) (range_with_len 0 s.moves);
}

-- a move comes before another: by key, then by target
abbrev pub precedes : Move → Move → Bool
precedes m n = before m.key m.target n.key n.target

-- each move comes before those behind it
abbrev pub Ascending : List Move → Type 0
Ascending ms = (i j : ℕ) (d : Move) → i < j → j < length ms → precedes (slice_index_or ms i d) (slice_index_or ms j d) ≡ true

-- whether a key and a target stand in the list
abbrev pub listed : List Move → ℕ → ℕ → Bool
listed [] key target = false
listed (m ∷ ms) key target = (m.key == key && m.target == target) || listed ms key target

-- the key of a move
abbrev pub key_of : Listing → ℕ → ℕ → ℕ → ℕ
key_of l s a b = (s * l.own + a) * l.partner + b

-- just the moves that are listed
abbrev pub listed_model : Listing → Model
listed_model l = record {
  states = l.states;
  own = l.own;
  partner = l.partner;
  start = l.start;
  label = λ s. cond (nat_lt s l.states) (byte l.labels s) 0;
  move = λ s a b t. in_range l.states l.own l.partner s a b t && listed l.moves (key_of l s a b) t;
}

-- the parked machine: one state, one signal each way, one move to itself, label 0
abbrev pub parked : Listing
parked = record {
  states = 1;
  own = 1;
  partner = 1;
  start = 0;
  labels = 0 ∷ [];
  moves = record { key = 0; target = 0 } ∷ [];
}

-- the machine that the bytes of a sheet describe
abbrev pub sheet_model : List ℕ → Model
sheet_model xs = listed_model (listing_of (sheet_in xs))
