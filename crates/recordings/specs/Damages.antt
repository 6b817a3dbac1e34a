-- What is wrong with an input that is no whole recording: number and place.
use Rattle.std.specs.Prelude.{ℕ, List, ◌++◌, codes, decimal, Some, None, Option, Result}
use Rattle.std.specs.Option.{option_map}
use Rattle.std.specs.Result.{result_err}
use Rattle.bays.specs.Bays.{Blame, blame}
use Rattle.recordings.specs.declared.damage.Damage.{Damage}
use Rattle.recordings.specs.declared.damage.Damage.TheVariants.{Ends, Unknown, Bay}

-- a refusal's number, its place in the whole input, and where the bay is refused the part that its fault is in, with that fault
pub record Spot : Type 0 where
  pub number : ℕ
  pub place : ℕ
  pub bay : Option Blame

-- damage by its number and its place, which is not the bay's
abbrev pub spot : ℕ → ℕ → Spot
spot n at = record { number = n; place = at; bay = None }

-- a refused bay, and the place of its fault in the whole input
abbrev pub bay_spot : Blame → ℕ → Spot
bay_spot b at = record { number = b.fault.number; place = at; bay = Some b }

-- number, place and part of each case; every promise about damage reads this definition
abbrev pub numbers : Damage → Spot
numbers (Ends at) = spot 1 at
numbers (Unknown at) = spot 2 at
numbers (Bay f at) = bay_spot (blame f) at

-- damage in print
abbrev pub printed : Spot → List ℕ
printed s = codes "refused " ++ (decimal s.number ++ (codes " byte " ++ decimal s.place))

-- the damage that an answer tells, none where it has a value
abbrev pub refused : {A : Type 0} → Result A Damage → Option Spot
refused r = option_map numbers (result_err r)
