-- The bay of two phases runs, call by call.
use Rattle.std.proofs.Common.{◌≡◌, ℕ, ◌+◌, ◌≤◌, true, false, cond, take, drop, Some, None, Ok, Err, refl, ap, ◌∙◌, arith}
use Rattle.std.specs.Option.{option_map}
use Rattle.reading.specs.Sides.{both}
use Rattle.reading.specs.declared.phase_table.PhaseTable.{PhaseTable}
use Rattle.reading.specs.PhaseTables.{Table, table_of, table_in, next_phase}
use Rattle.games.specs.Sets.{width, has}
use Rattle.games.specs.declared.deal.Deal.{Deal}
use Rattle.games.specs.Machines.{forbidden_in, goal_in}
use Rattle.cell.specs.declared.copies.Standing.{Standing}
use Rattle.cell.specs.Faults.{bare, about}
use Rattle.cell.specs.Logs.{Log, Offering, to_offer, to_report, own, run, first, signals, ranks, choice_fault, phase_after, moves, moved, answers_offer, answers_report}
use Rattle.cell.specs.Law.{Guarantee, BothMove, ticks, last_accepted, largest_answered}
use Rattle.trials.specs.Witness.{leader, marks, bay, table, Stands, high, low, calls, told, Runs, Soon, Witness}
use Rattle.trials.proofs.Steps.{only_changes, accepts, refuses, comes, stays, moves_on, stands, here, all_moves, Goes, answers_by, rest_by, holds_after}
use Rattle.trials.proofs.Steps.Goes.{ends, goes}
use Rattle.cell.proofs.AnswerLaws.{moves_from_accepted}
use Rattle.trials.proofs.WitnessBay.{lawful, there, high0, high1, low0, low1, promised0, promised1, relied0, relied1}

law : (a : Standing) (o : Offering) → Guarantee bay (here bay a o) o 0 → Guarantee bay (here bay a o) o 1 → choice_fault (here bay a o) 0 ≡ None → choice_fault (here bay a o) 1 ≡ None →
    Runs (here bay a o)
law a o g0 g1 c0 c1 = (
  o,
  refl,
  record {
    first = g0;
    second = g1;
    only_moves = λ to. moves_from_accepted bay (here bay a o) to;
    all_moves = λ to h. (signals (moved bay to (here bay a o)), all_moves bay a o to c0 c1 h);
  },
)

module _ (t : PhaseTable) (d : Deal) (s : Stands t d) where
  -- both machines in a state, in a phase, after a wait
  abbrev standing : ℕ → ℕ → ℕ → Standing
  standing x p w = record { states = both x x; phase = p; waits = both w w; bounds = both 5 6 }

  abbrev at : ℕ → ℕ → ℕ → Offering → Log
  at x p w o = here bay (standing x p w) o

  -- the law where the bay stands, by what it shows, how it waits, and where its machines can go
  runs : (x p w to : ℕ) (o : Offering) → o.deal ≡ d
      → (forbidden_in leader marks x ≡ false) × (has width 33 p (signals (at x p w o)).first ≡ true) × (has width 18 p (signals (at x p w o)).second ≡ true)
      → (w + (ranks (at x p w o)).first ≤ 6) × (w + (ranks (at x p w o)).second ≤ 7) × (w ≤ 5)
      → (moves bay (at x p w o) 0 to ≡ true) × (moves bay (at x p w o) 1 to ≡ true)
      → (choice_fault (at x p w o) 0 ≡ None) × (choice_fault (at x p w o) 1 ≡ None)
      → Runs (at x p w o)
  runs x p w to o e plays due go shows = law (standing x p w) o
      (record { safe = plays.0; promised = rw e (promised0 t d s p _ plays.1); relied = rw e (relied1 t d s p _ plays.1); due = due.0; patient = omega arith; goes = (to, go.0) })
      (record { safe = plays.0; promised = rw e (promised1 t d s p _ plays.2); relied = rw e (relied0 t d s p _ plays.2); due = due.1; patient = omega arith; goes = (to, go.1) })
      shows.0 shows.1

  -- an accepted report, by the phase that follows under the signals shown before
  moved_to : (x p w y q v : ℕ) (o : Offering) → o.table ≡ t → next_phase (table_in table) p (signals (at x p w o)).first (signals (at x p w o)).second ≡ q
      → cond (goal_in leader marks y) 0 (w + 1) ≡ v → moved bay (both y y) (at x p w o) ≡ at y q v o
  unfolding moved
  moved_to x p w y q v o e next wait =
      let shown = signals (at x p w o) in
      let then : phase_after (Some o) (standing x p w) ≡ q =
      ap (λ (z : PhaseTable). next_phase (table_of z) p shown.first shown.second) e ∙ ap (λ (z : Table). next_phase z p shown.first shown.second) s.table ∙ next in
      ap (λ i. here bay (record { states = both y y; phase = i; waits = both (cond (goal_in leader marks y) 0 (w + 1)) (cond (goal_in leader marks y) 0 (w + 1)); bounds = both 5 6 }) o) then
      ∙ ap (λ i. here bay (record { states = both y y; phase = q; waits = both i i; bounds = both 5 6 }) o) wait

  reports : (x p w y q v : ℕ) (o : Offering) → (choice_fault (at x p w o) 0 ≡ None) × (choice_fault (at x p w o) 1 ≡ None) → BothMove bay (at x p w o) (both y y)
      → moved bay (both y y) (at x p w o) ≡ at y q v o → answers_report bay (at x p w o) (both y y) ≡ Ok (signals (at y q v o))
  reports x p w y q v o shows go then = all_moves bay (standing x p w) o (both y y) shows.0 shows.1 go ∙ ap (λ l. Ok (signals l)) then

  -- where the bay stands after the first offer, the first report, the second offer, and the two reports after it
  abbrev begun : Log
  begun = at 0 0 0 (high t d)

  abbrev waiting : Log
  waiting = at 0 1 1 (high t d)

  abbrev handed : Log
  handed = at 0 0 1 (low t d)

  abbrev waiting_on : Log
  waiting_on = at 0 1 2 (low t d)

  abbrev met : Log
  met = at 1 0 0 (low t d)

  law_begun : Runs begun
  law_begun = runs 0 0 0 0 (high t d) refl (refl, refl, refl) (omega arith, omega arith, omega arith) (refl, refl) (refl, refl)

  law_waiting : Runs waiting
  law_waiting = runs 0 1 1 1 (high t d) refl (refl, refl, refl) (omega arith, omega arith, omega arith) (refl, refl) (refl, refl)

  law_handed : Runs handed
  law_handed = runs 0 0 1 0 (low t d) refl (refl, refl, refl) (omega arith, omega arith, omega arith) (refl, refl) (refl, refl)

  law_waiting_on : Runs waiting_on
  law_waiting_on = runs 0 1 2 1 (low t d) refl (refl, refl, refl) (omega arith, omega arith, omega arith) (refl, refl) (refl, refl)

  law_met : Runs met
  law_met = runs 1 0 0 0 (low t d) refl (refl, refl, refl) (omega arith, omega arith, omega arith) (refl, refl) (refl, refl)

  -- the answers to offers and reports
  begins : answers_offer bay (first bay) (high t d) ≡ Ok (both 5 6)
  begins = accepts bay (first bay) (high t d) (only_changes bay (first bay) (high t d) (ap (option_map (about 0)) (high0 t d s)) (ap (option_map (about 1)) (high1 t d s)))

  waits_first : moved bay (both 0 0) begun ≡ waiting
  waits_first = moved_to 0 0 0 0 1 1 (high t d) refl refl refl

  reports_first : answers_report bay begun (both 0 0) ≡ Ok (both 1 0)
  reports_first = reports 0 0 0 0 1 1 (high t d) (refl, refl) (refl, refl) waits_first

  rises : answers_offer bay waiting (high t d) ≡ Err (bare 31 0)
  rises = refuses bay waiting (high t d) (bare 31 0) (only_changes bay waiting (high t d) (ap (option_map (about 0)) (high0 t d s)) (ap (option_map (about 1)) (high1 t d s)))

  changes : answers_offer bay waiting (low t d) ≡ Ok (both 3 2)
  changes = accepts bay waiting (low t d) (only_changes bay waiting (low t d) (ap (option_map (about 0)) (low0 t d s)) (ap (option_map (about 1)) (low1 t d s)))

  reports_apart : answers_report bay handed (both 0 1) ≡ Err (bare 33 1)
  unfolding answers_report
  reports_apart = refl

  waits_on : moved bay (both 0 0) handed ≡ waiting_on
  waits_on = moved_to 0 0 1 0 1 2 (low t d) refl refl refl

  reports_on : answers_report bay handed (both 0 0) ≡ Ok (both 1 0)
  reports_on = reports 0 0 1 0 1 2 (low t d) (refl, refl) (refl, refl) waits_on

  meets : moved bay (both 1 1) waiting_on ≡ met
  meets = moved_to 0 1 2 1 0 0 (low t d) refl refl refl

  reports_met : answers_report bay waiting_on (both 1 1) ≡ Ok (both 0 1)
  reports_met = reports 0 1 2 1 0 0 (low t d) (refl, refl) (refl, refl) meets

  by_turn : Goes bay Runs (calls t d) (first bay) told
  by_turn =
      goes (ap to_offer begins) (comes bay (first bay) (high t d) (both 5 6) begins) law_begun
      (goes refl refl law_begun
      (goes (ap to_report reports_first) (moves_on bay begun (both 0 0) (both 1 0) reports_first ∙ waits_first) law_waiting
      (goes refl refl law_waiting
      (goes refl refl law_waiting
      (goes (ap to_offer rises) (stays bay waiting (high t d) (bare 31 0) rises) law_waiting
      (goes (ap to_offer changes) (comes bay waiting (low t d) (both 3 2) changes) law_handed
      (goes refl refl law_handed
      (goes (ap to_report reports_apart) (stands bay handed (both 0 1) (bare 33 1) reports_apart) law_handed
      (goes (ap to_report reports_on) (moves_on bay handed (both 0 0) (both 1 0) reports_on ∙ waits_on) law_waiting_on
      (goes refl refl law_waiting_on
      (goes (ap to_report reports_met) (moves_on bay waiting_on (both 1 1) (both 0 1) reports_met ∙ meets) law_met
      (goes refl refl law_met
      (goes refl refl law_met ends)))))))))))))

  -- the lower offer is the seventh call
  seventh : run bay (take 7 (calls t d)) (first bay) ≡ handed
  unfolding run
  seventh = rw (
    comes bay (first bay) (high t d) (both 5 6) begins,
    moves_on bay begun (both 0 0) (both 1 0) reports_first ∙ waits_first,
    stays bay waiting (high t d) (bare 31 0) rises,
    comes bay waiting (low t d) (both 3 2) changes,
  ) refl

  two_ticks : ticks (drop 7 told) ≡ 2
  unfolding ticks
  two_ticks = refl

  soon : Soon (run bay (take 7 (calls t d)) (first bay)) (drop 7 (calls t d))
  soon = (ap (λ l. own 1 (ranks l)) seventh, ap ticks (rest_by bay Runs by_turn 7) ∙ two_ticks)

last_is : (t : PhaseTable) (d : Deal) → last_accepted (calls t d) told None ≡ Some (low t d)
unfolding last_accepted
last_is t d = refl

largest_is : largest_answered told (both 0 0) ≡ both 5 6
unfolding largest_answered
largest_is = refl

pub witnessed : Witness
witnessed = record {
  leads = lawful (λ a b. a);
  follows = lawful (λ a b. b);
  there = there;
  answers = λ t d s. answers_by bay Runs (by_turn t d s);
  runs = λ t d s n h. holds_after bay Runs (by_turn t d s) n h;
  soon = soon;
  last = last_is;
  largest = largest_is;
}
