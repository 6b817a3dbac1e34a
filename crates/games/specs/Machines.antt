-- What a machine and a game mean, whatever holds them.
use Rattle.std.specs.Prelude.{◌≡◌, ℕ, ◌<◌, ◌≤◌, Bool, true, ◌&&◌, ◌||◌, nat_le, nat_lt}

-- the meaning of a machine; whether a move is possible: state, own signal, partner signal, next state
pub record Model : Type 0 where
  pub states : ℕ
  pub own : ℕ
  pub partner : ℕ
  pub start : ℕ
  pub label : ℕ → ℕ
  pub move : ℕ → ℕ → ℕ → ℕ → Bool

-- sizes, start and labels are in range; a label out of range is 0, and a move with a number out of range is not possible
pub record Lawful (m : Model) : Type 0 where
  pub some_states : 1 ≤ m.states
  pub few_states : m.states ≤ 256
  pub some_own : 1 ≤ m.own
  pub few_own : m.own ≤ 4
  pub some_partner : 1 ≤ m.partner
  pub few_partner : m.partner ≤ 4
  pub starts : m.start < m.states
  pub labels : (s : ℕ) → m.label s < 8
  pub unlabelled : (s : ℕ) → m.states ≤ s → m.label s ≡ 0
  pub inside : (s a b t : ℕ) → m.move s a b t ≡ true → (s < m.states) × (a < m.own) × (b < m.partner) × (t < m.states)

-- whether the four numbers of a move are in range
abbrev pub in_range : ℕ → ℕ → ℕ → ℕ → ℕ → ℕ → ℕ → Bool
in_range states own partner s a b t = (nat_lt s states && nat_lt t states) && (nat_lt a own && nat_lt b partner)

-- what a game adds to its machine: marks on states
pub record Marks : Type 0 where
  pub forbidden : ℕ → Bool
  pub goal : ℕ → Bool

-- whether a state is forbidden in a game; a state out of range is, and is no goal, whatever the marks
abbrev pub forbidden_in : Model → Marks → ℕ → Bool
forbidden_in m k s = nat_le m.states s || k.forbidden s

-- whether a state is a goal of a game
abbrev pub goal_in : Model → Marks → ℕ → Bool
goal_in m k s = nat_lt s m.states && k.goal s
