-- Examples that the definitions compute.
use Rattle.std.proofs.Common.{◌≡◌, ℕ, List, [], ◌∷◌, ◌++◌, replicate, Some, None, refl}
use Rattle.reading.specs.Faults.{fault}
use Rattle.bays.specs.Inputs.{parts_in, input_fault}
use Rattle.bays.specs.Bays.{at, bay_fault}

-- too short for five lengths; five lengths of 0 with nothing behind them; a byte too few, a byte too many
lengths : (input_fault (replicate 9 0) ≡ Some (fault 1 9))
    × (input_fault (replicate 10 0) ≡ None)
    × (input_fault (1 ∷ replicate 9 0) ≡ Some (fault 3 10))
    × (input_fault (replicate 11 0) ≡ Some (fault 3 11))
lengths = (refl, refl, refl, refl)

-- lengths 1, 2, 0, 1 and 0
cut : parts_in (1 ∷ 0 ∷ 2 ∷ 0 ∷ 0 ∷ 0 ∷ 1 ∷ 0 ∷ 0 ∷ 0 ∷ 5 ∷ 6 ∷ 7 ∷ 8 ∷ [])
    ≡ record { machine0 = 5 ∷ []; rule0 = 6 ∷ 7 ∷ []; machine1 = []; rule1 = 8 ∷ []; table = [] }
cut = refl

-- one state, one signal each way, one move
parked : List ℕ
parked = 1 ∷ 0 ∷ 1 ∷ 1 ∷ 0 ∷ 0 ∷ 1 ∷ 0 ∷ 0 ∷ 0 ∷ 0 ∷ 0 ∷ 0 ∷ []

-- the lengths come before any sheet; an empty sheet has the fault of its own reading, and the rule sheet of side 0 is read before side 1's
-- machine sheet
in_turn : (bay_fault (replicate 11 0) ≡ Some (at 0 (fault 3 11)))
    × (bay_fault (replicate 10 0) ≡ Some (at 1 (fault 1 0)))
    × (bay_fault (13 ∷ replicate 9 0 ++ parked) ≡ Some (at 2 (fault 1 0)))
unfolding parked
in_turn = (refl, refl, refl)
