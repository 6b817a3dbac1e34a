-- What reaching knows of its marks on the way: 0 for none, 1 for reached, 2 for reached and waiting.
-- A reader of the promise needs none of this: it speaks of reached positions alone (Reach).
use Rattle.std.specs.Prelude.{◌≡◌, ◌≢◌, ℕ, ◌+◌, ◌*◌, ◌/◌, ◌%◌, ◌<◌, ◌≤◌, true, cond, ◌⊎◌, List, sum_by, nat_eq}
use Rattle.reading.specs.Bytes.{byte}
use Rattle.reading.specs.declared.phase_table.PhaseTable.{PhaseTable}
use Rattle.reading.specs.declared.records.Position.{Position}
use Rattle.games.specs.declared.deal.Deal.{Deal}
use Rattle.games.specs.declared.machine.Machine.{Ghosts}
use Rattle.games.specs.Machines.{Model}
use Rattle.checking.specs.declared.reach.Marks.{Marks}
use Rattle.checking.specs.Arenas.{promised, relied, follow}
use Rattle.checking.specs.Reach.{Reached}

-- how often a mark can still change
abbrev pub left : ℕ → ℕ
left x = cond (nat_eq x 0) 2 (cond (nat_eq x 1) 0 1)

-- the same of all marks of a list
abbrev pub all_left : List ℕ → ℕ
all_left xs = sum_by left xs

-- marks before and after: a place keeps its mark, or it had none, now waits, and is of those that P names
pub record Marked (P : ℕ → Type 0) (old new : List ℕ) : Type 0 where
  pub each : (i : ℕ) → (byte new i ≡ byte old i) ⊎ ((byte old i ≡ 0) × (byte new i ≡ 2) × P i)
  pub fewer : all_left new ≤ all_left old

-- the place of a reached position
abbrev pub ReachedAt : Model → PhaseTable → Deal → ℕ → ℕ → Type 0
ReachedAt m t d side i = Reached m t d side (i / t.sizes.phases) (i % t.sizes.phases)

-- marks of a seat before and after: seat and reference are the same, and a mark that is new is at a reached position
pub record Grown {G : Type 0} {g : Ghosts G} (old new : Marks G g) : Type 0 where
  pub seat : new.seat ≡ old.seat
  pub reference : new.bytes.ghost_name ≡ old.bytes.ghost_name
  pub marked : Marked (ReachedAt (g.meaning old.seat.game.now) old.seat.table.now old.seat.deal.now old.seat.side) old.bytes.now new.bytes.now

-- whatever comes next after a position under two signals is marked
abbrev pub Moved : Model → PhaseTable → ℕ → List ℕ → ℕ → ℕ → ℕ → ℕ → Type 0
Moved m t side xs s p x b = (s' : ℕ) → m.move s x b s' ≡ true → byte xs (s' * t.sizes.phases + follow t side p x b) ≢ 0

-- the same under every promised and every relied signal
abbrev pub Followed : Model → PhaseTable → Deal → ℕ → List ℕ → ℕ → ℕ → Type 0
Followed m t d side xs s p = (x b : ℕ) → promised d side p x ≡ true → relied d side p b ≡ true → Moved m t side xs s p x b

-- a position that waits
pub record Waiting (m : Model) (t : PhaseTable) (xs : List ℕ) (at : Position) : Type 0 where
  pub state : at.state < m.states
  pub phase : at.phase < t.sizes.phases
  pub waits : byte xs (at.state * t.sizes.phases + at.phase) ≡ 2

-- no place waits
abbrev pub Idle : List ℕ → Type 0
Idle xs = (i : ℕ) → byte xs i ≢ 2

-- marks on the way: the start is marked, what is marked is reached, and what comes next after a mark 1 is marked
pub record Marking (m : Model) (t : PhaseTable) (d : Deal) (side : ℕ) (xs : List ℕ) : Type 0 where
  pub low : (i : ℕ) → byte xs i ≤ 2
  pub starts : byte xs (m.start * t.sizes.phases + 0) ≢ 0
  pub sound : (i : ℕ) → byte xs i ≢ 0 → ReachedAt m t d side i
  pub closed : (i : ℕ) → byte xs i ≡ 1 → Followed m t d side xs (i / t.sizes.phases) (i % t.sizes.phases)
