-- Examples that the lift computes: four floors, a partner with two signals.
use Rattle.std.proofs.Common.{◌≡◌, true, false, Some, None, refl}
use Rattle.reading.specs.Faults.{fault}
use Rattle.games.specs.Machines.{Model}
use Rattle.games.specs.Lifts.{state, lift, lift_fault}

abbrev four : Model
four = lift 4 2

-- an empty lift goes up one floor or coasts up two
up_or_coast : (four.move (state 0 0) 1 0 (state 1 0) ≡ true) × (four.move (state 0 0) 1 0 (state 2 0) ≡ true)
up_or_coast = (refl, refl)

no_coast_loaded : (four.move (state 0 1) 1 0 (state 1 1) ≡ true) × (four.move (state 0 1) 1 0 (state 2 1) ≡ false)
no_coast_loaded = (refl, refl)

-- below the top it goes up only one, and from the top not at all
below_top : (four.move (state 2 0) 1 0 (state 3 0) ≡ true) × (four.move (state 2 0) 1 0 (state 4 0) ≡ false)
below_top = (refl, refl)

from_top : (four.move (state 3 0) 1 0 (state 4 0) ≡ false) × (four.move (state 3 0) 2 0 (state 2 0) ≡ true)
from_top = (refl, refl)

no_lower : four.move (state 0 0) 2 0 (state 0 0) ≡ false
no_lower = refl

-- the load flips at both ends if the partner shows 1
flip_asked : (four.move (state 0 0) 3 1 (state 0 1) ≡ true) × (four.move (state 3 1) 3 1 (state 3 0) ≡ true)
flip_asked = (refl, refl)

no_flip : (four.move (state 0 0) 3 0 (state 0 1) ≡ false) × (four.move (state 1 0) 3 1 (state 1 1) ≡ false)
no_flip = (refl, refl)

-- in the middle no label, and none past the top
ends_labelled : (four.label 0 ≡ 1) × (four.label 1 ≡ 2) × (four.label 6 ≡ 3) × (four.label 7 ≡ 4)
ends_labelled = (refl, refl, refl, refl)

no_label : (four.label 2 ≡ 0) × (four.label 5 ≡ 0) × (four.label 8 ≡ 0)
no_label = (refl, refl, refl)

-- with two floors each state has a label, and a lift that is empty cannot coast
two_floors : ((lift 2 2).label 2 ≡ 3) × ((lift 2 2).label 3 ≡ 4) × ((lift 2 2).move 0 1 0 4 ≡ false)
two_floors = (refl, refl, refl)

-- floors are tested before signals
floors_first : (lift_fault 33 5 ≡ Some (fault 2 0)) × (lift_fault 32 5 ≡ Some (fault 2 1)) × (lift_fault 32 4 ≡ None)
floors_first = (refl, refl, refl)
