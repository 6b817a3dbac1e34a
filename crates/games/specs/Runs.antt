-- Runs of a machine, and of a machine watched by an automaton.
use Rattle.std.specs.Prelude.{◌≡◌, ℕ, ◌+◌, ◌*◌, ◌<◌, true, List, [], ◌∷◌}
use Rattle.reading.specs.RuleSheets.{Automaton, next_state}
use Rattle.games.specs.Machines.{Model}
use Rattle.games.specs.Layers.{product}

-- one tick: the two signals shown, and the state entered
pub record Tick : Type 0 where
  pub own : ℕ
  pub partner : ℕ
  pub next : ℕ

-- a run from a state: each tick is a possible move
abbrev pub Run : Model → ℕ → List Tick → Type 0
Run m s [] = Unit {0}
Run m s (x ∷ xs) = (m.move s x.own x.partner x.next ≡ true) × Run m x.next xs

-- the automaton's state after it has read the label of the state entered
abbrev pub read_on : Model → Automaton → ℕ → Tick → ℕ
read_on m a q x = next_state a q (m.label x.next)

-- a run paired with the automaton's run on the labels of the states entered
abbrev pub paired : Model → Automaton → ℕ → List Tick → List Tick
paired m a q [] = []
paired m a q (x ∷ xs) =
    record { own = x.own; partner = x.partner; next = x.next * a.states + read_on m a q x } ∷ paired m a (read_on m a q x) xs

-- the runs of the product are exactly the paired runs of the machine below
pub record Paired (m : Model) (a : Automaton) : Type 0 where
  pub each : (s q : ℕ) (xs : List Tick) → q < a.states → Run m s xs → Run (product m a) (s * a.states + q) (paired m a q xs)
  pub only : (s q : ℕ) (ys : List Tick) → q < a.states → Run (product m a) (s * a.states + q) ys
      → (xs : List Tick) × Run m s xs × (ys ≡ paired m a q xs)
