-- From the first fault to the whole of a reader's answer.
use Rattle.std.proofs.Common.{◌≡◌, Bool, true, false, cond, Ok, Err, None, Decides, Option, Result, is_ok, sym, refl, ap, ◌∙◌}
use Rattle.reading.specs.declared.faults.ReadFault.{ReadFault}
use Rattle.reading.specs.Faults.{Fault, told}
use Rattle.reading.proofs.FirstLaws.{not_some, not_true}

-- a reader accepts exactly what is lawful, if what has no fault is lawful and what is lawful has none
pub decided : {A P : Type 0} (r : Result A ReadFault) (o : Option Fault) → (o ≡ None → P) → (P → o ≡ None) → told r ≡ o → Decides (is_ok r) P
decided (Ok x) o from to e = (λ _. from (sym e), λ _. refl)
decided (Err f) o from to e = (λ z. absurd (not_true z), λ p. absurd (not_some (e ∙ to p)))

-- a test held if it had no fault
pub passed : {F : Type 0} (test : Bool) (f : F) {x : Unit {0}} → Ok x ≡ cond test (Ok tt) (Err f) → test ≡ true
passed true f e = refl
passed false f e = absurd (not_true (sym (ap is_ok e)))

-- and failed if it had one, which is that fault
abbrev err_or : {F : Type 0} → F → Result (Unit {0}) F → F
err_or y (Ok x) = y
err_or y (Err f) = f

pub failed : {F : Type 0} (test : Bool) (f : F) {x : F} → ◌≡◌ {A = Result (Unit {0}) F} (Err x) (cond test (Ok tt) (Err f)) → (test ≡ false) × (x ≡ f)
failed true f e = absurd (not_true (ap is_ok e))
failed false f e = (refl, ap (err_or f) e)
