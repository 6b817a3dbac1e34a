-- What the definitions of machines and layers say in small cases, computed.
use Rattle.std.proofs.Common.{◌≡◌, ℕ, true, false, cond, ◌==◌, List, [], ◌∷◌, ◌++◌, refl}
use Rattle.reading.specs.RuleSheets.{Automaton, blank}
use Rattle.games.specs.Machines.{Model, in_range, forbidden_in, goal_in}
use Rattle.games.specs.Listings.{parked, listed_model}
use Rattle.games.specs.Layers.{fitting, watched, watch_marks}

-- the parked machine has its one move, and none with a number out of range
parked_moves : ((listed_model parked).move 0 0 0 0 ≡ true) × ((listed_model parked).move 0 0 1 0 ≡ false) × ((listed_model parked).move 1 0 0 0 ≡ false)
parked_moves = (refl, refl, refl)

-- a machine of n states that moves from any to any; state 1 has label 1
abbrev free : ℕ → Model
free n = record { states = n; own = 1; partner = 1; start = 0; label = λ s. cond (s == 1) 1 0; move = λ s a b t. in_range n 1 1 s a b t }

-- next states of a state: 1 on label 1, else 0
abbrev row : List ℕ
row = 0 ∷ 1 ∷ 0 ∷ 0 ∷ 0 ∷ 0 ∷ 0 ∷ 0 ∷ []

-- in state 1, which is accepting, behind label 1; label 0 is forbidden
abbrev behind : Automaton
behind = record { states = 2; accepting = 2; forbidden = 1; start = 1; next = row ++ row }

-- the start has read the label of the start below, whatever the automaton's start
begins : (watched (free 2) behind).start ≡ 0
begins = refl

-- it is the label of the state entered that is read: from 0 × 2 + 0 to 1 × 2 + 1, and not to 1 × 2 + 0
enters : ((watched (free 2) behind).move 0 0 0 3 ≡ true) × ((watched (free 2) behind).move 0 0 0 2 ≡ false)
enters = (refl, refl)

-- goals go by the automaton's state, forbidden states by their label; a state out of range is forbidden and no goal
goals : (goal_in (watched (free 2) behind) (watch_marks (free 2) behind) 3 ≡ true)
    × (goal_in (watched (free 2) behind) (watch_marks (free 2) behind) 2 ≡ false)
    × (goal_in (watched (free 2) behind) (watch_marks (free 2) behind) 5 ≡ false)
goals = (refl, refl, refl)

forbidden : (forbidden_in (watched (free 2) behind) (watch_marks (free 2) behind) 1 ≡ true)
    × (forbidden_in (watched (free 2) behind) (watch_marks (free 2) behind) 3 ≡ false)
    × (forbidden_in (watched (free 2) behind) (watch_marks (free 2) behind) 4 ≡ true)
forbidden = (refl, refl, refl)

-- a product of 256 states fits, a larger one means the machine as it began
fits : (fitting (free 128) behind ≡ behind) × (fitting (free 129) behind ≡ blank)
fits = (refl, refl)
