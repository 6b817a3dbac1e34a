-- Examples that the definitions compute.
use Rattle.std.proofs.Common.{◌≡◌, true, false, [], ◌∷◌, ◌++◌, replicate, refl}
use Rattle.solver_c.specs.BitMachines.{bit_move}

-- from state 0: to 3 under signals 0 and 0, to 0 under 0 and 1
moves : (bit_move (8 ∷ []) 0 0 0 3 ≡ true) × (bit_move (8 ∷ []) 0 0 0 2 ≡ false) × (bit_move (replicate 32 0 ++ 1 ∷ []) 0 0 1 0 ≡ true)
moves = (refl, refl, refl)
