-- Examples that the definitions compute.
use Rattle.std.proofs.Common.{◌≡◌, ℕ, List, [], ◌∷◌, codes, Some, None, Ok, Err, refl}
use Rattle.std.specs.Fmt.{digits}
use Rattle.reading.specs.PhaseTables.{Table}
use Rattle.reading.specs.Sides.{both}
use Rattle.reading.specs.declared.sides.Sides.{Sides}
use Rattle.games.specs.declared.deal.Terms.{Terms}
use Rattle.checking.specs.declared.faults.SolveFault.TheVariants.{NoController}
use Rattle.reading.specs.declared.faults.ReadFault.TheVariants.{Short}
use Rattle.games.specs.Signings.{deal_fault, numbers}
use Rattle.games.specs.declared.deal.signing.Unsigned.TheVariants.{NotTerms, TooFar}
use Rattle.bays.specs.declared.faults.BayFault.TheVariants.{Lengths}
use Rattle.planning.specs.declared.refusals.Refusal.TheVariants.{Bay, Terms as Unagreed}
use Rattle.planning.specs.Plans.{line, Planned}
use Rattle.planning.specs.Lines.{state_lines, table_lines, plan_lines}

-- an empty input is refused whatever the terms, and so printed
empty : (s : Sides Terms) → Planned [] s (Err (Bay (Lengths (Short 0)))) × (line (Bay (Lengths (Short 0))) ≡ codes "refused 1 at byte 0")
unfolding digits
empty s = (refl, refl)

abbrev terms : ℕ → ℕ → Terms
terms x y = record { promise = x; reliance = y }

-- two signals each way
abbrev one_phase : Table
one_phase = record { phases = 1; signals0 = 2; signals1 = 2; entries = [] }

-- terms that are agreed; too much is promised; terms that are not as described come before that
deals : (deal_fault one_phase (both (terms 2 2) (terms 2 2)) ≡ None)
    × (deal_fault one_phase (both (terms 3 2) (terms 2 2)) ≡ Some (numbers (TooFar 0 0)))
    × (deal_fault one_phase (both (terms 3 2) (terms 0 2)) ≡ Some (numbers (NotTerms 1)))
    × (line (Unagreed (NotTerms 1)) ≡ codes "refused 20")
unfolding digits
deals = (refl, refl, refl, refl)

-- of four states and one phase, signal 1 everywhere: ranks 1, 0, 2 and none
record_bytes : List ℕ
record_bytes = 4 ∷ 0 ∷ 1 ∷ 2 ∷ 1 ∷ 1 ∷ 1 ∷ 255 ∷ 1 ∷ 0 ∷ 0 ∷ 0 ∷ 2 ∷ 0 ∷ 255 ∷ 255 ∷ []

-- state by state; and a side that has no table
tables : (plan_lines (Ok 2) record_bytes
    ≡ codes "from anywhere that it keeps, a goal in at most 2 ticks\n  state 0, phase 0: show signal 1, goal in at most 1 tick\n  state 1, phase 0: show signal 1, at a goal\n  state 2, phase 0: show signal 1, goal in at most 2 ticks\n  state 3, phase 0: no way to a goal\n")
    × (plan_lines (Err NoController) [] ≡ codes "refused 23: it has no controller. Let it promise more or rely on less, or ease its rules.\n")
unfolding record_bytes digits state_lines table_lines
tables = (refl, refl)
