-- Examples that the definitions compute.
use Rattle.std.proofs.Common.{◌≡◌, ℕ, [], ◌∷◌, ◌++◌, codes, Ok, Err, Some, None, refl}
use Rattle.std.specs.Fmt.{digits}
use Rattle.reading.specs.PhaseTables.{Table}
use Rattle.reading.specs.Sides.{both}
use Rattle.reading.specs.declared.faults.ReadFault.TheVariants.{Entry}
use Rattle.games.specs.declared.deal.Terms.{Terms}
use Rattle.games.specs.declared.watched.sheets.SheetsFault.TheVariants.{Rule}
use Rattle.checking.specs.declared.faults.CheckFault.TheVariants.{Reading, NotLower}
use Rattle.checking.specs.Checks.{at}
use Rattle.review.specs.declared.cases.Case.{Case}
use Rattle.review.specs.declared.refusals.Refusal.TheVariants.{Sheets, Check}
use Rattle.review.specs.Verdicts.{line, terms_line, early_line}
use Rattle.review.specs.Reviews.{Says}

-- a fault of bytes has its place in print, the record's too; a fault of the check has its number alone
lines : (line (Sheets (Rule (Entry 12))) ≡ codes "refused 4 at byte 12")
    × (line (Check (Reading (Entry 7))) ≡ codes "refused 4 at byte 7")
    × (line (Check (NotLower (at 2 0) 1 0)) ≡ codes "refused 19")
unfolding digits
lines = (refl, refl, refl)

abbrev terms : ℕ → ℕ → Terms
terms x y = record { promise = x; reliance = y }

-- two signals each way
one_phase : Table
one_phase = record { phases = 1; signals0 = 2; signals1 = 2; entries = [] }

-- terms that are agreed; too much is promised; terms that are not as described come before that
deals : (terms_line one_phase (both (terms 2 2) (terms 2 2)) ≡ None)
    × (terms_line one_phase (both (terms 3 2) (terms 2 2)) ≡ Some (codes "refused 21"))
    × (terms_line one_phase (both (terms 3 2) (terms 0 2)) ≡ Some (codes "refused 20"))
unfolding one_phase digits
deals = (refl, refl, refl)

-- a machine sheet of two bytes is told before all else
short : (c : Case) → c.machine.now ≡ 2 ∷ 0 ∷ [] → early_line c ≡ Some (codes "refused 1 at byte 2")
unfolding digits
short c e = rw e refl

-- one line for a bound, two for a refusal
texts : Says (Ok 6) (codes "bound 6" ++ 10 ∷ []) × Says (Err (codes "refused 13")) (codes "refused 13" ++ 10 ∷ codes "why" ++ 10 ∷ [])
unfolding digits
texts = (refl, (codes "why", refl))
