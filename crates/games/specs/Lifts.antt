-- The lift: floors, a load, and how it moves.
use Rattle.std.specs.Prelude.{◌≡◌, ℕ, ◌+◌, ◌-◌, ◌*◌, ◌/◌, ◌%◌, ◌<◌, ◌≤◌, Bool, cond, not, ◌&&◌, ◌||◌, ◌⊎◌, Decides, Option, ◌==◌, nat_le, nat_lt}
use Rattle.reading.specs.Firsts.{first_some, unless}
use Rattle.reading.specs.Bytes.{within}
use Rattle.reading.specs.Faults.{Fault, fault}
use Rattle.games.specs.Machines.{Model, in_range}

-- the state on a floor with a load, 0 empty and 1 loaded
abbrev pub state : ℕ → ℕ → ℕ
state floor load = 2 * floor + load

-- one floor up; an empty lift may also coast up two
abbrev pub rises : ℕ → ℕ → Bool
rises s t = t == s + 2 || (s % 2 == 0 && t == s + 4)

-- one floor down
abbrev pub sinks : ℕ → ℕ → Bool
sinks s t = s == t + 2

-- the other load on the same floor, which is floor 0 or the top floor
abbrev pub flips : ℕ → ℕ → ℕ → Bool
flips F s t = (nat_lt s 2 || nat_le (2 * F) (s + 2)) && (s / 2 == t / 2 && not (s == t))

-- whether numbers in range are a move; signal 3 asks that the partner shows 1
abbrev pub lift_move : ℕ → ℕ → ℕ → ℕ → ℕ → Bool
lift_move F s a b t =
    cond (a == 0) (s == t)
    (cond (a == 1) (rises s t)
    (cond (a == 2) (sinks s t)
    (b == 1 && flips F s t)))

-- floor 0 empty and loaded are 1 and 2, the top floor empty and loaded 3 and 4, all else is 0
abbrev pub lift_label : ℕ → ℕ → ℕ
lift_label F s =
    cond (s == state 0 0) 1
    (cond (s == state 0 1) 2
    (cond (s == state (F - 1) 0) 3
    (cond (s == state (F - 1) 1) 4 0)))

-- a lift with F floors and a partner with m signals
abbrev pub lift : ℕ → ℕ → Model
lift F m = record {
  states = 2 * F;
  own = 4;
  partner = m;
  start = state 0 0;
  label = lift_label F;
  move = λ s a b t. in_range (2 * F) 4 m s a b t && lift_move F s a b t;
}

-- the moves, in words of floors and loads
pub data Step (F floor load own partner floor' load' : ℕ) : Type 0 where
  stay : own ≡ 0 → floor' ≡ floor → load' ≡ load → Step F floor load own partner floor' load'
  up : own ≡ 1 → floor' ≡ floor + 1 → load' ≡ load → Step F floor load own partner floor' load'
  coast : own ≡ 1 → load ≡ 0 → floor' ≡ floor + 2 → load' ≡ 0 → Step F floor load own partner floor' load'
  down : own ≡ 2 → floor ≡ floor' + 1 → load' ≡ load → Step F floor load own partner floor' load'
  flip : own ≡ 3 → partner ≡ 1 → (floor ≡ 0) ⊎ (floor + 1 ≡ F) → floor' ≡ floor → load' ≡ 1 - load → Step F floor load own partner floor' load'

-- the test of a move says exactly that there is such a step
abbrev pub Steps : ℕ → ℕ → Type 0
Steps F m =
    (floor load own partner floor' load' : ℕ) → floor < F → load < 2 → own < 4 → partner < m → floor' < F → load' < 2
    → Decides ((lift F m).move (state floor load) own partner (state floor' load')) (Step F floor load own partner floor' load')

-- a size out of range, floors first
abbrev pub lift_fault : ℕ → ℕ → Option Fault
lift_fault F m = first_some (unless (within 2 32 F) (fault 2 0)) (unless (within 2 4 m) (fault 2 1))

-- sizes that a lift can have
pub record Sizes (F m : ℕ) : Type 0 where
  pub some_floors : 2 ≤ F
  pub few_floors : F ≤ 32
  pub some_signals : 2 ≤ m
  pub few_signals : m ≤ 4
