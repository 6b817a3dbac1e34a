-- Keys of moves read backward: a key is (state × own signals + own) × partner signals + partner.
use Rattle.std.specs.Prelude.{ℕ, ◌-◌, ◌/◌, max, Bool, not, ◌||◌, ◌==◌}
use Rattle.reading.specs.MachineSheets.{Sheet, key_at}

-- the state that a key names
abbrev pub state_of : ℕ → ℕ → ℕ → ℕ
state_of own partner key = key / max partner 1 / max own 1

-- the state that a move of a sheet starts in
abbrev pub state_at : Sheet → ℕ → ℕ
state_at s i = state_of s.own s.partner (key_at s i)

-- a move is the first of its key
abbrev pub opens_at : Sheet → ℕ → Bool
opens_at s i = i == 0 || not (key_at s (i - 1) == key_at s i)
