-- The shown examples, computed.
use Rattle.std.proofs.Common.{◌≡◌, ℕ, zero, suc, ◌/◌, ◌≤◌, true, false, ltb, List, Some, None, Option, sym, refl, ap, ◌∙◌, arith}
use Rattle.std.proofs.lemmas.Bool.{true≢false, le-ltb}
use Rattle.std.proofs.lemmas.Nat.{le-div}
use Rattle.reading.specs.Records.{parts_in, bound_of, record_fault}
use Rattle.reading.specs.declared.phase_table.PhaseTable.{PhaseTable}
use Rattle.checking.specs.Controllers.{plan_in}
use Rattle.checking.specs.Faults.{Refusal, refusal}
use Rattle.checking.specs.Checks.{sized, plan_fault, answer}
use Rattle.trials.specs.Toggles.{watched_toggle, ranked, OnePhase}
use Rattle.trials.specs.Shown.{WatchedToggle, Signing}
use Rattle.trials.specs.Checks.{Answers, Checking}
use Rattle.trials.proofs.Played.{bay, plan_alone}

-- a state from 4 up is none
far : (t : ℕ) → 4 ≤ t → watched_toggle.move 0 1 1 t ≡ true → ⊥
far t h e =
    let z : ltb (t / 2) 2 ≡ false = le-ltb (t / 2) 2 (le-div 2 t 2 (omega arith) h) in
    true≢false (sym (rw z at e))

only : (t : ℕ) → watched_toggle.move 0 1 1 t ≡ true → t ≡ 3
only zero e = absurd (true≢false (sym e))
only (suc zero) e = absurd (true≢false (sym e))
only (suc (suc zero)) e = absurd (true≢false (sym e))
only (suc (suc (suc zero))) e = refl
only (suc (suc (suc (suc t)))) e = absurd (far (suc (suc (suc (suc t)))) (omega arith) e)

pub shown : WatchedToggle
shown = record { accepted = refl; states = refl; start = refl; goals = (refl, refl); no_goals = (refl, refl); moves = refl; only = only }

pub signing_shown : Signing
signing_shown = record { signs = refl; too_far = refl }

-- a check of a lawful record of the right sizes answers by its plan alone
checked : (xs : List ℕ) (f : Option Refusal) → record_fault xs ≡ None → ((t : PhaseTable) → OnePhase t → sized watched_toggle t (parts_in xs) ≡ true) → plan_fault bay (plan_in xs) ≡ f →
    Answers xs (answer f (bound_of (parts_in xs)))
checked xs f lawful size e t d side m l = ap (λ g. answer g (bound_of (parts_in xs))) (plan_alone 2 t d m side xs l lawful (size t m.one_phase) ∙ e)

pub checking_shown : Checking
checking_shown = record {
  passes = checked (ranked 5 0 6 0) None refl (λ t o. rw o.phases refl) refl;
  rank_zero = checked (ranked 0 0 2 0) (Some (refusal 16 0 0 65535 65535)) refl (λ t o. rw o.phases refl) refl;
  not_lower = checked (ranked 1 0 1 0) (Some (refusal 19 2 0 1 0)) refl (λ t o. rw o.phases refl) refl;
}
