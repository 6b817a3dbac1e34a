-- What one side of a bay plays: its game, under a phase table and a deal.
use Rattle.std.specs.Prelude.{◌≡◌, ℕ, ◌≤◌, Bool, ◌&&◌, ◌==◌, nat_le}
use Rattle.reading.specs.declared.phase_table.PhaseTable.{PhaseTable}
use Rattle.reading.specs.PhaseTables.{table_of, next_phase}
use Rattle.games.specs.declared.deal.Deal.{Deal}
use Rattle.games.specs.Sets.{width, has}
use Rattle.reading.specs.Sides.{pick}
use Rattle.games.specs.Machines.{Model, Marks, forbidden_in, goal_in}
use Rattle.checking.specs.declared.seat.Seat.{Seat}

-- whether a side promises a signal of its own in a phase: deal, side, phase, signal
abbrev pub promised : Deal → ℕ → ℕ → ℕ → Bool
promised d side = has width (pick side d.terms.first.promise d.terms.second.promise)

-- whether a side relies on a signal of its partner in a phase: deal, side, phase, signal
abbrev pub relied : Deal → ℕ → ℕ → ℕ → Bool
relied d side = has width (pick side d.terms.first.reliance d.terms.second.reliance)

-- the phase after a phase, a side's own signal and its partner's: the table names side 0's signal first
abbrev pub follow : PhaseTable → ℕ → ℕ → ℕ → ℕ → ℕ
follow t side p x b = pick side (next_phase (table_of t) p x b) (next_phase (table_of t) p b x)

-- all that a side's play rests on
pub record Arena : Type 0 where
  pub states : ℕ
  pub phases : ℕ
  pub start : ℕ
  pub own : ℕ
  pub partner : ℕ
  -- phase, signal
  pub promised : ℕ → ℕ → Bool
  pub relied : ℕ → ℕ → Bool
  -- phase, own signal, partner signal
  pub follow : ℕ → ℕ → ℕ → ℕ
  -- state, own signal, partner signal, next state
  pub move : ℕ → ℕ → ℕ → ℕ → Bool
  pub forbidden : ℕ → Bool
  pub goal : ℕ → Bool

-- what a side plays with a game, under a table and a deal
abbrev pub arena : Model → Marks → PhaseTable → Deal → ℕ → Arena
arena m k t d side = record {
  states = m.states;
  phases = t.sizes.phases;
  start = m.start;
  own = m.own;
  partner = m.partner;
  promised = promised d side;
  relied = relied d side;
  follow = follow t side;
  move = m.move;
  forbidden = forbidden_in m k;
  goal = goal_in m k;
}

-- whether there is such a side, and game, table and deal are of the same sizes
abbrev pub suits : Model → PhaseTable → Deal → ℕ → Bool
suits m t d side =
    nat_le side 1
    && (t.sizes.phases == d.sizes.phases
    && (t.sizes.signals.first == d.sizes.signals.first
    && (t.sizes.signals.second == d.sizes.signals.second
    && (m.own == pick side t.sizes.signals.first t.sizes.signals.second
    && m.partner == pick side t.sizes.signals.second t.sizes.signals.first))))

-- the same in words
pub record Suits (m : Model) (t : PhaseTable) (d : Deal) (side : ℕ) : Type 0 where
  pub there : side ≤ 1
  pub phases : t.sizes.phases ≡ d.sizes.phases
  pub signals0 : t.sizes.signals.first ≡ d.sizes.signals.first
  pub signals1 : t.sizes.signals.second ≡ d.sizes.signals.second
  pub own : m.own ≡ pick side t.sizes.signals.first t.sizes.signals.second
  pub partner : m.partner ≡ pick side t.sizes.signals.second t.sizes.signals.first

-- what is played from a seat, by what its game means
abbrev pub playing : {G : Type 0} → (G → Model) → (G → Marks) → Seat G → Arena
playing meant marked s = arena (meant s.game.now) (marked s.game.now) s.table.now s.deal.now s.side
