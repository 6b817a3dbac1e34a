-- The number of each refusal of a negotiation.
use Rattle.std.specs.Prelude.{ℕ}
use Rattle.bays.specs.Bays.{blame}
use Rattle.checking.specs.Searching.{search_number}
use Rattle.negotiation.specs.declared.refusals.Refusal.{Refusal}
use Rattle.negotiation.specs.declared.refusals.Refusal.TheVariants.{Bay, Search}

-- a fault of reading keeps its number, and a search's refusal its own; every promise about these refusals reads this definition
abbrev pub number : Refusal → ℕ
number (Bay f) = (blame f).fault.number
number (Search f) = search_number f
