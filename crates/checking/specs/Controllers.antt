-- Ranked controllers: a choice and a rank at each position, which is a state and a phase.
use Rattle.std.specs.Prelude.{◌≡◌, ℕ, ◌<◌, ◌≤◌, true, false, List}
use Rattle.reading.specs.Records.{Parts, parts_in, choice_at, rank_at}
use Rattle.checking.specs.Arenas.{Arena}

-- what a controller does: the signal it shows, and at most how many ticks to a goal
pub record Plan : Type 0 where
  pub choice : ℕ → ℕ → ℕ
  pub rank : ℕ → ℕ → ℕ

-- the plan that a record holds; a position outside it has choice 255 and rank 65,535
abbrev pub plan_of : Parts → Plan
plan_of r = record { choice = choice_at r; rank = rank_at r }

-- the plan of the record that bytes hold
abbrev pub plan_in : List ℕ → Plan
plan_in xs = plan_of (parts_in xs)

-- a position is kept unless both its choice and its rank are absent
abbrev pub Kept : Plan → ℕ → ℕ → Type 0
Kept c s p = (c.choice s p ≡ 255) × (c.rank s p ≡ 65535) → ⊥

-- a signal that serves at a position: it is promised; for each partner signal relied on it has a next state, and only kept next
-- positions, whose phase follows the table; and unless the state is a goal, each of them has a lower rank
pub record Serves (a : Arena) (c : Plan) (s p x : ℕ) : Type 0 where
  pub promised : a.promised p x ≡ true
  pub goes : (b : ℕ) → a.relied p b ≡ true → (t : ℕ) × (a.move s x b t ≡ true)
  pub stays : (b t : ℕ) → a.relied p b ≡ true → a.move s x b t ≡ true → Kept c t (a.follow p x b)
  pub falls : (b t : ℕ) → a.relied p b ≡ true → a.move s x b t ≡ true → a.goal s ≡ false → c.rank t (a.follow p x b) < c.rank s p

-- a rival: at each kept position the state is not forbidden, the rank is at most 65,534 and 0 exactly at goals, and the choice serves
pub record Rival (a : Arena) (c : Plan) : Type 0 where
  pub inside : (s p : ℕ) → Kept c s p → (s < a.states) × (p < a.phases)
  pub safe : (s p : ℕ) → Kept c s p → a.forbidden s ≡ false
  pub ranked : (s p : ℕ) → Kept c s p → c.rank s p ≤ 65534
  pub zero_at_goals : (s p : ℕ) → Kept c s p → a.goal s ≡ true → c.rank s p ≡ 0
  pub goals_at_zero : (s p : ℕ) → Kept c s p → c.rank s p ≡ 0 → a.goal s ≡ true
  pub serves : (s p : ℕ) → Kept c s p → Serves a c s p (c.choice s p)

-- a ranked controller: a rival that keeps the start in phase 0
pub record Controller (a : Arena) (c : Plan) : Type 0 where
  pub rival : Rival a c
  pub starts : Kept c a.start 0

-- there is a ranked controller
abbrev pub Controlled : Arena → Type 0
Controlled a = (c : Plan) × Controller a c

-- the bound: the largest kept rank, reached or not
pub record Bound (c : Plan) (b : ℕ) : Type 0 where
  pub above : (s p : ℕ) → Kept c s p → c.rank s p ≤ b
  pub met : (s : ℕ) × (p : ℕ) × Kept c s p × (c.rank s p ≡ b)
