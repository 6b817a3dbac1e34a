-- Examples that the definitions compute.
use Rattle.std.proofs.Common.{◌≡◌, codes, refl}
use Rattle.console.specs.Words.{number}

-- a number with a plus before it or without, and with zeros before it
numbers : (number (codes "18") ≡ 18) × (number (codes "+7") ≡ 7) × (number (codes "007") ≡ 7)
numbers = (refl, refl, refl)
