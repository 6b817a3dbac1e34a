-- What a search knows on its way: of which candidates a side is known to have a controller, or to have none. A reader of the promises
-- needs none of this.
use Rattle.std.specs.Prelude.{◌≡◌, ℕ, ◌<◌, ◌⊎◌, Bool, true, false, slice_index_or, Some, None, Option, vec_items, ◌==◌}
use Rattle.std.specs.Bool.{beq}
use Rattle.reading.specs.Bytes.{bit}
use Rattle.reading.specs.declared.sides.Sides.{Sides}
use Rattle.reading.specs.declared.phase_table.PhaseTable.{PhaseTable}
use Rattle.games.specs.declared.deal.Deal.{Deal}
use Rattle.games.specs.Signings.{Dealt}
use Rattle.checking.specs.declared.snapshot.Snapshot.{Snapshot}
use Rattle.checking.specs.declared.search.player.Player.{Player}
use Rattle.checking.specs.declared.search.seek.Seeker.{Seeker}
use Rattle.checking.specs.Snapshots.{snap_arena}
use Rattle.checking.specs.Controllers.{Controlled}
use Rattle.checking.specs.Searching.{candidate, how_many, terms_of}

-- a verdict on a side at a candidate: it has a controller under each deal on it, it has none, or nothing is known
abbrev pub Verdict : Snapshot → PhaseTable → ℕ → Sides ℕ → Option Bool → Type 0
Verdict z t side c None = Unit {0}
Verdict z t side c (Some true) = (d : Deal) → Dealt t.sizes (terms_of c) d → Controlled (snap_arena z t d side)
Verdict z t side c (Some false) = (d : Deal) → Dealt t.sizes (terms_of c) d → Controlled (snap_arena z t d side) → ⊥

-- each verdict of a player is true
abbrev pub Knows : PhaseTable → ℕ → Player → Type 0
Knows t side y = (i : ℕ) → i < how_many t.sizes → Verdict y.snapshot t side (candidate t.sizes i) (slice_index_or (vec_items y.verdicts) i None)

-- every signal of one set is in the other
abbrev pub Within : ℕ → ℕ → Type 0
Within x y = (i : ℕ) → bit x i ≡ true → bit y i ≡ true

-- the first set lies within the second, or the other way round
abbrev pub Ordered : Bool → ℕ → ℕ → Type 0
Ordered true x y = Within x y
Ordered false x y = Within y x

-- whether a verdict goes on to candidates where side 0 promises more: a controller of side 0's does, and so does the want of one of side 1's
abbrev pub upward : ℕ → Bool → Bool
upward side won = beq (side == 0) won

-- each player's verdicts are true
pub record BothKnow (t : PhaseTable) (y : Seeker) : Type 0 where
  pub first : Knows t 0 y.first
  pub second : Knows t 1 y.second

-- what a step of a search keeps: true verdicts, and both games
pub record Onward (t : PhaseTable) (old new : Seeker) : Type 0 where
  pub know : BothKnow t new
  pub first : new.first.snapshot ≡ old.first.snapshot
  pub second : new.second.snapshot ≡ old.second.snapshot

-- both sides have controllers at a candidate
pub record BothWin (y : Seeker) (t : PhaseTable) (c : Sides ℕ) : Type 0 where
  pub first : Verdict y.first.snapshot t 0 c (Some true)
  pub second : Verdict y.second.snapshot t 1 c (Some true)

-- one of the sides has no controller at a candidate
abbrev pub OneFails : Seeker → PhaseTable → Sides ℕ → Type 0
OneFails y t c = Verdict y.first.snapshot t 0 c (Some false) ⊎ Verdict y.second.snapshot t 1 c (Some false)

-- at each of the first so many candidates one side has no controller
abbrev pub NoneWins : Seeker → PhaseTable → ℕ → Type 0
NoneWins y t n = (i : ℕ) → i < n → OneFails y t (candidate t.sizes i)

-- the first place, below n, where both have one
pub record FirstToWin (y : Seeker) (t : PhaseTable) (n place : ℕ) : Type 0 where
  pub below : place < n
  pub win : BothWin y t (candidate t.sizes place)
  pub first : NoneWins y t place
