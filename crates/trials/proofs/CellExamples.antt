-- What the definitions of the cell say in small cases, computed.
use Rattle.std.proofs.Common.{◌≡◌, ℕ, List, [], ◌∷◌, true, false, Some, None, Ok, Err, refl, ap}
use Rattle.reading.specs.Sides.{both}
use Rattle.reading.specs.declared.sides.Sides.{Sides}
use Rattle.reading.specs.declared.phase_table.PhaseTable.{PhaseTable}
use Rattle.reading.specs.Firsts.{first_some}
use Rattle.reading.specs.PhaseTables.{Table, table_of, table_in, next_phase}
use Rattle.games.specs.declared.deal.Deal.{Deal}
use Rattle.games.specs.Machines.{Model, Marks}
use Rattle.cell.specs.declared.copies.Standing.{Standing}
use Rattle.cell.specs.declared.calls.Question.{Question}
use Rattle.cell.specs.declared.calls.Question.TheVariants as question
use Rattle.cell.specs.Faults.{Refusal, bare}
use Rattle.cell.specs.Law.{ticks}
use Rattle.cell.specs.Logs.{Games, Offering, Log, asked, to_offer, to_report, states, phase, waits, signals_shown, ranks_shown, first, record_fault, change_fault, changes_fault, answers_offer, taken, running_fault, bounds_of, unless_refused, waited, phase_after, moved, answers_report, answers_question, after}

-- before any call
module _ (g : Games) where
  first_states : answers_question (first g) question.States ≡ states (both g.machines.first.start g.machines.second.start)
  first_states = refl

  first_phase : answers_question (first g) question.Phase ≡ phase 0
  first_phase = refl

  first_waits : answers_question (first g) question.Waits ≡ waits (both 0 0)
  first_waits = refl

  first_signals : answers_question (first g) question.Signals ≡ signals_shown (both 255 255)
  first_signals = refl

  first_ranks : answers_question (first g) question.Ranks ≡ ranks_shown (both 65535 65535)
  first_ranks = refl

  -- an idle cell refuses each report, about neither side
  idle : (a : Standing) (to : Sides ℕ) → answers_report g (record { at = a; force = None }) to ≡ Err (bare 32 2)
  unfolding answers_report
  idle a to = refl

  -- a question changes nothing
  unchanged : (l : Log) (q : Question) → after g l (asked q) ≡ l
  unchanged l q = refl

  -- side 0's record is judged before side 1's, and both before any change
  first_side : (l : Log) (o : Offering) (f : Refusal) → record_fault g o 0 ≡ Some f → answers_offer g l o ≡ Err f
  unfolding answers_offer
  first_side l o f e = ap (λ r. unless_refused (first_some r (first_some (record_fault g o 1) (changes_fault l.force l.at o))) (bounds_of o)) e

-- a record of one state and one phase, by its choice and the two bytes of its rank
abbrev one : ℕ → ℕ → ℕ → List ℕ
one choice low high = 1 ∷ 0 ∷ 1 ∷ 2 ∷ choice ∷ low ∷ high ∷ []

-- records of one state and two phases that keep it in phase 0 alone, and in phase 1 alone
abbrev now_kept : List ℕ
now_kept = 1 ∷ 0 ∷ 2 ∷ 2 ∷ 0 ∷ 255 ∷ 3 ∷ 0 ∷ 255 ∷ 255 ∷ []

abbrev later_kept : List ℕ
later_kept = 1 ∷ 0 ∷ 2 ∷ 2 ∷ 255 ∷ 0 ∷ 255 ∷ 255 ∷ 3 ∷ 0 ∷ []

-- a record of two states that shows 1 in state 0 and 0 in state 1 in phase 0, and the other way round in phase 1
abbrev crossing : List ℕ
crossing = 2 ∷ 0 ∷ 2 ∷ 2 ∷ 1 ∷ 0 ∷ 0 ∷ 1 ∷ 1 ∷ 0 ∷ 1 ∷ 0 ∷ 1 ∷ 0 ∷ 1 ∷ 0 ∷ []

-- where the machines are in two states, in a phase
abbrev standing : ℕ → ℕ → ℕ → Standing
standing s r p = record { states = both s r; phase = p; waits = both 2 7; bounds = both 5 6 }

-- a machine that never moves
abbrev still : Model
still = record { states = 1; own = 2; partner = 2; start = 0; label = λ s. 0; move = λ s a b t. false }

abbrev unmarked : Marks
unmarked = record { forbidden = λ s. false; goal = λ s. false }

module _ (t : PhaseTable) (d : Deal) where
  abbrev offer : List ℕ → List ℕ → Offering
  offer xs ys = record { table = t; deal = d; records = both xs ys }

  -- an equal rank is no rise, a higher one is 31; a state that is not kept is 30, though its rank of 65,535 rises too
  equal : change_fault (standing 0 0 0) (both 3 4) (offer (one 0 3 0) (one 0 4 0)) 0 ≡ None
  equal = refl

  equal_second : change_fault (standing 0 0 0) (both 3 4) (offer (one 0 3 0) (one 0 4 0)) 1 ≡ None
  equal_second = refl

  higher : change_fault (standing 0 0 0) (both 3 4) (offer (one 0 4 0) (one 0 4 0)) 0 ≡ Some (bare 31 0)
  higher = refl

  higher_second : change_fault (standing 0 0 0) (both 3 4) (offer (one 0 4 0) (one 0 5 0)) 1 ≡ Some (bare 31 1)
  higher_second = refl

  dropped : change_fault (standing 0 0 0) (both 3 4) (offer (one 255 255 255) (one 0 4 0)) 0 ≡ Some (bare 30 0)
  dropped = refl

  -- in whatever phase the machines are, it is phase 0 of the new record that counts
  now : change_fault (standing 0 0 1) (both 3 4) (offer now_kept later_kept) 0 ≡ None
  now = refl

  later : change_fault (standing 0 0 1) (both 3 4) (offer now_kept later_kept) 1 ≡ Some (bare 30 1)
  later = refl

  -- both of side 0's come before both of side 1's, which count too; with no offer in force there are none
  by_side : changes_fault (Some (offer (one 0 3 0) (one 0 4 0))) (standing 0 0 0) (offer (one 0 4 0) (one 255 255 255)) ≡ Some (bare 31 0)
  by_side = refl

  of_second : changes_fault (Some (offer (one 0 3 0) (one 0 4 0))) (standing 0 0 0) (offer (one 0 3 0) (one 0 5 0)) ≡ Some (bare 31 1)
  of_second = refl

  at_first : changes_fault None (standing 0 0 0) (offer (one 255 255 255) (one 0 9 0)) ≡ None
  at_first = refl

  -- a choice that side 1 lacks comes before a move that side 0 cannot make, and side 0's move before side 1's
  no_choice : running_fault (record { machines = both still still; marks = both unmarked unmarked }) (record { at = standing 0 0 0; force = Some (offer (one 0 3 0) (one 255 255 255)) }) (both 0 0) ≡ Some (bare 34 1)
  no_choice = refl

  no_choice_first : running_fault (record { machines = both still still; marks = both unmarked unmarked }) (record { at = standing 0 0 0; force = Some (offer (one 255 255 255) (one 255 255 255)) }) (both 0 0) ≡ Some (bare 34 0)
  no_choice_first = refl

  no_move : running_fault (record { machines = both still still; marks = both unmarked unmarked }) (record { at = standing 0 0 0; force = Some (offer (one 0 3 0) (one 0 4 0)) }) (both 0 0) ≡ Some (bare 33 0)
  no_move = refl

-- a wait ends at a goal only
ended : waited true 7 ≡ 0
ended = refl

longer : waited false 7 ≡ 8
longer = refl

-- an accepted offer raises only the bound that is lower than its own, and leaves states and waits as they are
raised : taken (both 3 9) (record { states = both 1 2; phase = 1; waits = both 2 7; bounds = both 5 6 }) ≡ record { states = both 1 2; phase = 0; waits = both 2 7; bounds = both 5 9 }
raised = refl

-- in phase 0 signal 1 of side 0 leads to phase 1, and signal 0 back to phase 0
module _ (t : PhaseTable) (d : Deal) (says : table_of t ≡ table_in (2 ∷ 2 ∷ 1 ∷ 0 ∷ 1 ∷ 1 ∷ 0 ∷ [])) where
  shown_before : phase_after (Some (offer t d crossing (one 0 1 0))) (standing 0 0 0) ≡ 1
  shown_before = ap (λ (x : Table). next_phase x 0 1 0) says

  shown_after : phase_after (Some (offer t d crossing (one 0 1 0))) (standing 1 0 0) ≡ 0
  shown_after = ap (λ (x : Table). next_phase x 0 0 0) says

  -- so a report of state 1 leads to phase 1, by the signals shown before it
  reports : (g : Games) → (moved g (both 1 0) (record { at = standing 0 0 0; force = Some (offer t d crossing (one 0 1 0)) })).at.phase ≡ 1
  unfolding moved
  reports g = shown_before

-- a tick passes with a report that is accepted, and with no other call
two_ticks : ticks (to_report (Ok (both 1 0)) ∷ to_report (Err (bare 33 0)) ∷ to_offer (Ok (both 3 2)) ∷ phase 1 ∷ to_report (Ok (both 0 1)) ∷ []) ≡ 2
unfolding ticks
two_ticks = refl
