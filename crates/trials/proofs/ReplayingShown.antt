-- What a cell of two toggles answers, call by call.
use Rattle.std.proofs.Common.{◌≡◌, ℕ, ◌<◌, None, Ok, Err, Some, refl, ap, ◌∙◌, arith}
use Rattle.std.specs.Option.{option_map}
use Rattle.reading.specs.Sides.{both}
use Rattle.reading.specs.declared.phase_table.PhaseTable.{PhaseTable}
use Rattle.reading.specs.PhaseTables.{table_of, next_phase}
use Rattle.games.specs.declared.deal.Deal.{Deal}
use Rattle.checking.specs.Checks.{check_fault}
use Rattle.checking.proofs.PlayLaws.{follow_low}
use Rattle.cell.specs.Faults.{bare, about}
use Rattle.cell.specs.Logs.{Log, Offering, to_offer, to_report, first, signals, moved, answers_offer, answers_report, all_answers}
use Rattle.trials.specs.Toggles.{watched_toggle, toggle_marks, ranked, Meets}
use Rattle.trials.specs.Replays.{two_toggles, calls, answered, Replaying}
use Rattle.trials.proofs.Played.{plan_alone}
use Rattle.trials.proofs.Steps.{only_changes, accepts, refuses, comes, stays, moves_on, stands, Goes, answers_by, filled}
use Rattle.trials.proofs.Steps.Goes.{ends, goes}

module _ (t : PhaseTable) (d : Deal) (m : Meets 2 t d) where
  -- ranks 5 0 6 0 pass on both sides, and so do the solved ranks
  high_passes : (side : ℕ) → side < 2 → check_fault watched_toggle toggle_marks t d side (ranked 5 0 6 0) ≡ None
  high_passes side l = plan_alone 2 t d m side (ranked 5 0 6 0) l refl (rw m.one_phase.phases refl) ∙ refl

  least_passes : (side : ℕ) → side < 2 → check_fault watched_toggle toggle_marks t d side (ranked 1 0 2 0) ≡ None
  least_passes side l = plan_alone 2 t d m side (ranked 1 0 2 0) l refl (rw m.one_phase.phases refl) ∙ refl

  abbrev high : Offering
  high = record { table = t; deal = d; records = both (ranked 5 0 6 0) (ranked 5 0 6 0) }

  abbrev least : Offering
  least = record { table = t; deal = d; records = both (ranked 1 0 2 0) (ranked 1 0 2 0) }

  -- both toggles in a state, after no wait, under an offer
  abbrev standing : ℕ → Offering → Log
  standing s x = record { at = record { states = both s s; phase = 0; waits = both 0 0; bounds = both 6 6 }; force = Some x }

  begins : answers_offer two_toggles (first two_toggles) high ≡ Ok (both 6 6)
  begins = accepts two_toggles (first two_toggles) high (only_changes two_toggles (first two_toggles) high (ap (option_map (about 0)) (high_passes 0 (omega arith))) (ap (option_map (about 1)) (high_passes 1 (omega arith))))

  changes : answers_offer two_toggles (standing 0 high) least ≡ Ok (both 2 2)
  changes = accepts two_toggles (standing 0 high) least (only_changes two_toggles (standing 0 high) least (ap (option_map (about 0)) (least_passes 0 (omega arith))) (ap (option_map (about 1)) (least_passes 1 (omega arith))))

  rises : answers_offer two_toggles (standing 0 least) high ≡ Err (bare 31 0)
  rises = refuses two_toggles (standing 0 least) high (bare 31 0) (only_changes two_toggles (standing 0 least) high (ap (option_map (about 0)) (high_passes 0 (omega arith))) (ap (option_map (about 1)) (high_passes 1 (omega arith))))

  moves_wrong : answers_report two_toggles (standing 0 least) (both 0 3) ≡ Err (bare 33 0)
  unfolding answers_report
  moves_wrong = refl

  -- the one phase follows itself
  next : moved two_toggles (both 3 3) (standing 0 least) ≡ standing 3 least
  unfolding moved
  next = ap (λ p. record { at = record { states = both 3 3; phase = p; waits = both 0 0; bounds = both 6 6 }; force = Some least }) (alone (next_phase (table_of t) 0 1 1) (follow_low t 0 0 1 1))
    where
      alone : (p : ℕ) → p < t.sizes.phases → p ≡ 0
      alone p h = omega (arith, h, m.one_phase.phases)

  turns : answers_report two_toggles (standing 0 least) (both 3 3) ≡ Ok (both 1 1)
  unfolding answers_report
  turns = ap (λ l. Ok (signals l)) next

  by_turn : Goes two_toggles (λ l. Unit {0}) (calls t d) (first two_toggles) answered
  by_turn =
      goes (ap to_offer begins) (comes two_toggles (first two_toggles) high (both 6 6) begins) tt
      (goes (ap to_offer changes) (comes two_toggles (standing 0 high) least (both 2 2) changes) tt
      (goes (ap to_offer rises) (stays two_toggles (standing 0 least) high (bare 31 0) rises) tt
      (goes (ap to_report moves_wrong) (stands two_toggles (standing 0 least) (both 0 3) (bare 33 0) moves_wrong) tt
      (goes (ap to_report turns) (moves_on two_toggles (standing 0 least) (both 3 3) (both 1 1) turns ∙ next) tt
      (goes refl refl tt ends)))))

  by_log : all_answers two_toggles (calls t d) (first two_toggles) ≡ answered
  by_log = answers_by two_toggles (λ l. Unit {0}) by_turn

pub replaying_shown : Replaying
replaying_shown = record {
  by_log = by_log;
  by_cell = λ t d old new count m six f. filled two_toggles (calls t d) answered old new count six (by_log t d m) f;
}
