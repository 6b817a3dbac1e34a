-- Both sides' terms on a phase table: the deal that they make, or why there is none.
use Rattle.std.specs.Prelude.{◌≡◌, ℕ, Option, Result}
use Rattle.std.specs.Option.{option_map}
use Rattle.std.specs.Result.{result_err}
use Rattle.reading.specs.Firsts.{first_some}
use Rattle.reading.specs.PhaseTables.{Table}
use Rattle.reading.specs.declared.sides.Sides.{Sides}
use Rattle.reading.specs.declared.sizes.Sizes.{Sizes}
use Rattle.games.specs.declared.deal.Terms.{Terms}
use Rattle.games.specs.declared.deal.Deal.{Deal}
use Rattle.games.specs.declared.deal.signing.Unsigned.{Unsigned}
use Rattle.games.specs.declared.deal.signing.Unsigned.TheVariants.{NotTerms, TooFar}
use Rattle.games.specs.Deals.{Refusal, terms_fault, first_gap}

-- a refusal of a side's own terms is about that side
abbrev pub about : ℕ → Refusal → Refusal
about side r = record { number = r.number; phase = r.phase; side = side }

-- number, phase and side of each case; every promise about these refusals reads this definition
abbrev pub numbers : Unsigned → Refusal
numbers (NotTerms s) = record { number = 20; phase = 65535; side = s }
numbers (TooFar p s) = record { number = 21; phase = p; side = s }

-- the refusal in an answer, none where there is a deal
abbrev pub refused : {A : Type 0} → Result A Unsigned → Option Refusal
refused r = option_map numbers (result_err r)

-- the first refusal: side 0's terms are not as described, side 1's are not, a promise goes beyond the other's reliance
abbrev pub signing_fault : ℕ → ℕ → ℕ → Sides Terms → Option Refusal
signing_fault phases k0 k1 s =
    first_some (option_map (about 0) (terms_fault phases k0 k1 s.first))
    (first_some (option_map (about 1) (terms_fault phases k1 k0 s.second))
    (first_gap phases s.first s.second))

-- the same on a phase table
abbrev pub deal_fault : Table → Sides Terms → Option Refusal
deal_fault t s = signing_fault t.phases t.signals0 t.signals1 s

-- a deal on a table's sizes, with both sides' terms
pub record Dealt (z : Sizes) (s : Sides Terms) (d : Deal) : Type 0 where
  pub sizes : d.sizes ≡ z
  pub terms : d.terms ≡ s
