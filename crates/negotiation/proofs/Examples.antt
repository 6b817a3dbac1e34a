-- Examples that the definitions compute.
use Rattle.std.proofs.Common.{◌≡◌, codes, Ok, Err, refl}
use Rattle.std.specs.Fmt.{digits}
use Rattle.reading.specs.Sides.{both}
use Rattle.reading.specs.declared.faults.ReadFault.TheVariants.{Short}
use Rattle.bays.specs.declared.faults.BayFault.TheVariants.{Lengths}
use Rattle.checking.specs.declared.faults.SearchFault.TheVariants.{NoDeal}
use Rattle.negotiation.specs.declared.refusals.Refusal.TheVariants.{Bay, Search}
use Rattle.negotiation.specs.Lines.{line}

-- a deal; no deal at all, whatever the tries; an input of nine bytes
lines : (line (Ok (record { promises = both 2 18; tries = 5; bounds = both 16 7 })) ≡ codes "deal 2 18 tries 5 bounds 16 7\n")
    × (line (Err (Search (NoDeal 9))) ≡ codes "refused 27\n")
    × (line (Err (Bay (Lengths (Short 9)))) ≡ codes "refused 1\n")
unfolding digits
lines = (refl, refl, refl)
