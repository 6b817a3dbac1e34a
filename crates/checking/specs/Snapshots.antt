-- A game as a solver holds it: its next states as sets, asked for once.
use Rattle.std.specs.Prelude.{◌≡◌, ℕ, Bool, ◌&&◌, ◌||◌, vec_items, nat_le, nat_lt}
use Rattle.reading.specs.declared.phase_table.PhaseTable.{PhaseTable}
use Rattle.games.specs.declared.deal.Deal.{Deal}
use Rattle.games.specs.Machines.{Model, Marks, forbidden_in, goal_in}
use Rattle.checking.specs.declared.state_set.StateSet.{StateSet}
use Rattle.checking.specs.declared.snapshot.Snapshot.{Snapshot}
use Rattle.checking.specs.declared.seat.Seat.{Seat}
use Rattle.checking.specs.StateSets.{member}
use Rattle.checking.specs.Sources.{rows_move}
use Rattle.checking.specs.Arenas.{Arena, promised, relied, follow}

-- whether a set of forbidden states of n has a state; one out of range is forbidden
abbrev pub set_forbidden : ℕ → StateSet → ℕ → Bool
set_forbidden n set s = nat_le n s || member set s

-- whether a set of goals has it; one out of range is no goal
abbrev pub set_goal : ℕ → StateSet → ℕ → Bool
set_goal n set s = nat_lt s n && member set s

-- whether a move is possible, as the snapshot has it
abbrev pub snap_move : Snapshot → ℕ → ℕ → ℕ → ℕ → Bool
snap_move z = rows_move z.frame.states (vec_items z.rows)

-- whether a state is forbidden there
abbrev pub snap_forbidden : Snapshot → ℕ → Bool
snap_forbidden z = set_forbidden z.frame.states z.forbidden

-- whether it is a goal there
abbrev pub snap_goal : Snapshot → ℕ → Bool
snap_goal z = set_goal z.frame.states z.goals

-- a snapshot is taken of a game
pub record Taken (m : Model) (k : Marks) (z : Snapshot) : Type 0 where
  pub states : z.frame.states ≡ m.states
  pub own : z.frame.own ≡ m.own
  pub partner : z.frame.partner ≡ m.partner
  pub start : z.frame.start ≡ m.start
  pub moves : (s x b t : ℕ) → snap_move z s x b t ≡ m.move s x b t
  pub forbidden : (s : ℕ) → snap_forbidden z s ≡ forbidden_in m k s
  pub goals : (s : ℕ) → snap_goal z s ≡ goal_in m k s

-- what a side plays with a snapshot, under a table and a deal
abbrev pub snap_arena : Snapshot → PhaseTable → Deal → ℕ → Arena
snap_arena z t d side = record {
  states = z.frame.states;
  phases = t.sizes.phases;
  start = z.frame.start;
  own = z.frame.own;
  partner = z.frame.partner;
  promised = promised d side;
  relied = relied d side;
  follow = follow t side;
  move = snap_move z;
  forbidden = snap_forbidden z;
  goal = snap_goal z;
}

-- what is played from a seat with a snapshot
abbrev pub played : Seat Snapshot → Arena
played y = snap_arena y.game.now y.table.now y.deal.now y.side
