-- The solved record, told by rivals alone, and what solving answers.
use Rattle.std.specs.Prelude.{◌≡◌, ℕ, ◌+◌, ◌*◌, ◌≤◌, ◌⊎◌, List, length, Some, None, Ok, Err, Option, Result, ◌==◌}
use Rattle.reading.specs.Firsts.{first_some, unless}
use Rattle.reading.specs.Limits.{AllBelow}
use Rattle.reading.specs.Records.{parts_in, Lawful}
use Rattle.reading.specs.declared.phase_table.PhaseTable.{PhaseTable}
use Rattle.games.specs.declared.deal.Deal.{Deal}
use Rattle.games.specs.Machines.{Model, Marks}
use Rattle.checking.specs.declared.faults.SolveFault.{SolveFault}
use Rattle.checking.specs.declared.faults.SolveFault.TheVariants as fault
use Rattle.checking.specs.Arenas.{Arena, arena, suits}
use Rattle.checking.specs.Controllers.{Plan, plan_in, Kept, Serves, Rival, Controlled}
use Rattle.checking.specs.Checks.{Sized, check_answer}

-- the number of each refusal of solving; every promise about them reads this definition
abbrev pub solve_number : SolveFault → ℕ
solve_number fault.Sizes = 10
solve_number fault.Buffer = 22
solve_number fault.NoController = 23

-- a plan is solved: it is a rival that keeps each position that some rival keeps, with the least rank any rival has there,
-- and the lowest signal that serves there
pub record Solved (a : Arena) (c : Plan) : Type 0 where
  pub rival : Rival a c
  pub keeps : (r : Plan) → Rival a r → (s p : ℕ) → Kept r s p → Kept c s p
  pub least : (r : Plan) → Rival a r → (s p : ℕ) → Kept r s p → c.rank s p ≤ r.rank s p
  pub lowest : (s p x : ℕ) → Kept c s p → Serves a c s p x → c.choice s p ≤ x

-- the length of a record for n states and p phases
abbrev pub record_size : ℕ → ℕ → ℕ
record_size n p = 4 + 3 * (n * p)

-- bytes are the solved record: a lawful record of the sizes of game and table whose plan is solved; a position that it does not
-- keep has choice 255 and rank 65,535
pub record Solution (m : Model) (k : Marks) (t : PhaseTable) (d : Deal) (side : ℕ) (xs : List ℕ) : Type 0 where
  pub bytes : AllBelow 256 xs
  pub lawful : Lawful xs
  pub sized : Sized m t (parts_in xs)
  pub solved : Solved (arena m k t d side) (plan_in xs)

-- what is refused before any solving, for a buffer of so many bytes: side and sizes, then the buffer's length
abbrev pub solve_head : Model → PhaseTable → Deal → ℕ → ℕ → Option ℕ
solve_head m t d side size =
    first_some (unless (suits m t d side) (solve_number fault.Sizes))
    (unless (size == record_size m.states t.sizes.phases) (solve_number fault.Buffer))

-- a bound is answered: nothing was refused before, the buffer holds the one solved record, it keeps the start, and checking
-- accepts it with that bound
pub record Found (m : Model) (k : Marks) (t : PhaseTable) (d : Deal) (side : ℕ) (old new : List ℕ) (bound : ℕ) : Type 0 where
  pub head : solve_head m t d side (length old) ≡ None
  pub solution : Solution m k t d side new
  pub only : (xs : List ℕ) → Solution m k t d side xs → xs ≡ new
  pub starts : Kept (plan_in new) m.start 0
  pub accepted : check_answer m k t d side new ≡ Ok bound

-- a number is refused: before any solving, or else it is 23 and there is no ranked controller, so that no bytes whatever are one
abbrev pub Refused : Model → Marks → PhaseTable → Deal → ℕ → List ℕ → ℕ → Type 0
Refused m k t d side old number =
    (solve_head m t d side (length old) ≡ Some number)
    ⊎ ((solve_head m t d side (length old) ≡ None) × (number ≡ 23) × (Controlled (arena m k t d side) → ⊥))

-- what solving answers, and what it makes of the buffer
abbrev pub Solves : Model → Marks → PhaseTable → Deal → ℕ → List ℕ → List ℕ → Result ℕ SolveFault → Type 0
Solves m k t d side old new (Ok bound) = Found m k t d side old new bound
Solves m k t d side old new (Err f) = (new ≡ old) × Refused m k t d side old (solve_number f)
