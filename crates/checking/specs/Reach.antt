-- Which positions can come up, told over what a machine means, with a table and a deal; and what reaching answers.
use Rattle.std.specs.Prelude.{◌≡◌, ℕ, ◌+◌, ◌*◌, ◌<◌, true, ◌⊎◌, List, length, Some, None, Ok, Err, Option, Result, ◌==◌}
use Rattle.reading.specs.Bytes.{byte}
use Rattle.reading.specs.Firsts.{first_some, unless}
use Rattle.reading.specs.declared.phase_table.PhaseTable.{PhaseTable}
use Rattle.games.specs.declared.deal.Deal.{Deal}
use Rattle.games.specs.Machines.{Model}
use Rattle.checking.specs.declared.faults.ReachFault.{ReachFault}
use Rattle.checking.specs.declared.faults.ReachFault.TheVariants as fault
use Rattle.checking.specs.Arenas.{promised, relied, follow, suits}

-- the positions that are reached: the start in phase 0; and from a reached one, under a signal that the side promises there and one
-- that it relies on there, each state that the machine may move to, in the phase that follows
pub data Reached (m : Model) (t : PhaseTable) (d : Deal) (side : ℕ) : ℕ → ℕ → Type 0 where
  start : Reached m t d side m.start 0
  step : (s p x b s' : ℕ) → Reached m t d side s p → promised d side p x ≡ true → relied d side p b ≡ true → m.move s x b s' ≡ true
      → Reached m t d side s' (follow t side p x b)

-- the number of each refusal of reaching; every promise about them reads this definition
abbrev pub reach_number : ReachFault → ℕ
reach_number fault.Sizes = 10
reach_number fault.Buffer = 22

-- the length of a buffer with a place for each position
abbrev pub places : Model → PhaseTable → ℕ
places m t = m.states * t.sizes.phases

-- what is refused, for a buffer of so many bytes: side and sizes, then the buffer's length
abbrev pub reach_refusal : Model → PhaseTable → Deal → ℕ → ℕ → Option ℕ
reach_refusal m t d side size =
    first_some (unless (suits m t d side) (reach_number fault.Sizes))
    (unless (size == places m t) (reach_number fault.Buffer))

-- a byte tells whether something holds: 1 if it does, 0 if not
abbrev pub Tells : ℕ → Type 0 → Type 0
Tells n A = ((n ≡ 1) × A) ⊎ ((n ≡ 0) × (A → ⊥))

-- bytes tell of each position whether it is reached; of P phases, state s in phase p has place s × P + p
pub record ReachedBytes (m : Model) (t : PhaseTable) (d : Deal) (side : ℕ) (xs : List ℕ) : Type 0 where
  pub long : length xs ≡ places m t
  pub tells : (s p : ℕ) → s < m.states → p < t.sizes.phases → Tells (byte xs (s * t.sizes.phases + p)) (Reached m t d side s p)

-- what reaching answers, and what it makes of the buffer
abbrev pub Reaches : Model → PhaseTable → Deal → ℕ → List ℕ → List ℕ → Result Unit ReachFault → Type 0
Reaches m t d side old new (Ok _) = (reach_refusal m t d side (length old) ≡ None) × ReachedBytes m t d side new
Reaches m t d side old new (Err f) = (reach_refusal m t d side (length old) ≡ Some (reach_number f)) × (new ≡ old)
