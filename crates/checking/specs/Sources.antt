-- The next states of a game as sets, and where a move comes from.
use Rattle.std.specs.Prelude.{◌≡◌, ℕ, Bool, true, ◌&&◌, List, [], nat_lt, slice_index_or}
use Rattle.reading.specs.Marks.{implies}
use Rattle.checking.specs.declared.state_set.StateSet.{StateSet}
use Rattle.checking.specs.StateSets.{member, nothing}

-- the set of next states, by state, own signal and partner signal
abbrev pub row_of : List (List (List StateSet)) → ℕ → ℕ → ℕ → StateSet
row_of rows s x b = slice_index_or (slice_index_or (slice_index_or rows s []) x []) b nothing

-- a move of one of n states, by the rows
abbrev pub rows_move : ℕ → List (List (List StateSet)) → ℕ → ℕ → ℕ → ℕ → Bool
rows_move n rows s x b t = (nat_lt s n && (nat_lt x 4 && nat_lt b 4)) && member (row_of rows s x b) t

-- each move of one of n states is from a source of the state that it leads to
abbrev pub Sourced : ℕ → List (List (List StateSet)) → List StateSet → Type 0
Sourced n rows sources = (s x b t : ℕ) → implies (rows_move n rows s x b t) (member (slice_index_or sources t nothing) s) ≡ true
