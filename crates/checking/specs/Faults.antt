-- The faults of checking: number and values.
use Rattle.std.specs.Prelude.{ℕ, Some, None, Option, Result}
use Rattle.std.specs.Option.{option_map}
use Rattle.std.specs.Result.{result_map_both, result_err}
use Rattle.reading.specs.Faults.{Fault}
use Rattle.reading.specs.Faults.{numbers as read_numbers}
use Rattle.checking.specs.declared.faults.CheckFault.{CheckFault}
use Rattle.checking.specs.declared.faults.CheckFault.TheVariants.{Reading, Sizes, RecordSizes, HalfKept, StartAbsent, Forbidden, NotPromised, GoalRank, NoNext, NextAbsent, NotLower}

-- a refusal's number, and the state, phase, partner signal and next state that it is about: 65,535 where none applies;
-- a fault of reading is held whole
pub record Refusal : Type 0 where
  pub number : ℕ
  pub state : ℕ
  pub phase : ℕ
  pub partner : ℕ
  pub next : ℕ
  pub reading : Option Fault

-- stands for a value that does not apply
abbrev pub none : ℕ
none = 65535

-- a refusal that holds no fault of reading: number, state, phase, partner signal, next state
abbrev pub refusal : ℕ → ℕ → ℕ → ℕ → ℕ → Refusal
refusal n s p b t = record { number = n; state = s; phase = p; partner = b; next = t; reading = None }

-- a fault of reading, as checking tells it
abbrev pub unread : Fault → Refusal
unread f = record { number = f.number; state = none; phase = none; partner = none; next = none; reading = Some f }

-- number and values of each case; every promise about the faults of checking reads this definition
abbrev pub numbers : CheckFault → Refusal
numbers (Reading f) = unread (read_numbers f)
numbers Sizes = refusal 10 none none none none
numbers RecordSizes = refusal 11 none none none none
numbers (HalfKept at) = refusal 12 at.state at.phase none none
numbers (StartAbsent s) = refusal 13 s 0 none none
numbers (Forbidden at) = refusal 14 at.state at.phase none none
numbers (NotPromised at) = refusal 15 at.state at.phase none none
numbers (GoalRank at) = refusal 16 at.state at.phase none none
numbers (NoNext at b) = refusal 17 at.state at.phase b none
numbers (NextAbsent at b t) = refusal 18 at.state at.phase b t
numbers (NotLower at b t) = refusal 19 at.state at.phase b t

-- what an answer tells: the bound, or the refusal
abbrev pub told : Result ℕ CheckFault → Result ℕ Refusal
told = result_map_both (λ b. b) numbers

-- the refusal in an answer, none where it has a value
abbrev pub refused : {A : Type 0} → Result A CheckFault → Option Refusal
refused r = option_map numbers (result_err r)
