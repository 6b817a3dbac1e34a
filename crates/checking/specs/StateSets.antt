-- Sets of states below 256, as the bits of two numbers.
use Rattle.std.specs.Prelude.{◌≡◌, ℕ, ◌-◌, ◌<◌, ◌≤◌, Bool, true, false, cond, nat_lt}
use Rattle.reading.specs.Bytes.{bit}
use Rattle.checking.specs.declared.state_set.StateSet.{StateSet}

-- whether a state is in a set; none from 256 up is
abbrev pub member : StateSet → ℕ → Bool
member x t = cond (nat_lt t 128) (bit x.low t) (bit x.high (t - 128))

-- no state at all
abbrev pub nothing : StateSet
nothing = record { low = 0; high = 0 }

-- the first place from a place on, below n, where a test passes
pub record FirstFrom (f : ℕ → Bool) (from n k : ℕ) : Type 0 where
  pub low : from ≤ k
  pub high : k < n
  pub here : f k ≡ true
  pub before : (i : ℕ) → from ≤ i → i < k → f i ≡ false
