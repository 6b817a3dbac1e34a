-- Sets of signals by phase, each held in one number: signal j of phase p is bit w × p + j, where w is the width of a phase.
use Rattle.std.specs.Prelude.{◌≡◌, ℕ, zero, suc, ◌+◌, ◌*◌, ◌/◌, ◌%◌, ◌^◌, ◌<◌, Bool, true, not, ◌&&◌, ◌==◌, bit_and, nat_lt}
use Rattle.reading.specs.Bytes.{bit}
use Rattle.reading.specs.Marks.{implies}

-- how many signals a phase has room for
abbrev pub width : ℕ
width = 4

-- whether signal j is in a set at phase p; a signal from the width up would be one of a later phase
abbrev pub has : ℕ → ℕ → ℕ → ℕ → Bool
has w set p j = nat_lt j w && bit set (w * p + j)

-- the signals of one phase
abbrev pub row : ℕ → ℕ → ℕ → ℕ
row w set p = set / 2 ^ (w * p) % 2 ^ w

-- what a set holds from a phase on
abbrev pub after : ℕ → ℕ → ℕ → ℕ
after w set p = set / 2 ^ (w * p)

-- whether the test holds at every index below n
abbrev pub all_below : ℕ → (ℕ → Bool) → Bool
all_below zero f = true
all_below (suc n) f = f n && all_below n f

-- whether the signals of a phase are some, and none from k up
abbrev pub filled : ℕ → ℕ → Bool
filled k x = not (x == 0) && x / 2 ^ k == 0

-- whether a set is as described for so many phases and k signals: filled in each phase, and nothing in later phases
abbrev pub described : ℕ → ℕ → ℕ → ℕ → Bool
described w phases k set = (after w set phases) == 0 && all_below phases (λ p. filled k (row w set p))

-- the same in words of signals
pub record Described (w phases k set : ℕ) : Type 0 where
  pub some : (p : ℕ) → p < phases → (j : ℕ) × (has w set p j ≡ true)
  pub low : (p j : ℕ) → has w set p j ≡ true → j < k
  pub ends : (p j : ℕ) → has w set p j ≡ true → p < phases

-- whether every signal that one set has in a phase is in the other too
abbrev pub inside : ℕ → ℕ → ℕ → ℕ → Bool
inside w inner outer p = bit_and (row w inner p) (row w outer p) == row w inner p

-- the same in words of signals, in each phase
abbrev pub Inside : ℕ → ℕ → ℕ → ℕ → Type 0
Inside w phases inner outer = (p j : ℕ) → p < phases → implies (has w inner p j) (has w outer p j) ≡ true
