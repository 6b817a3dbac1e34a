-- Examples that the definitions compute.
use Rattle.std.proofs.Common.{◌≡◌, ℕ, true, List, [], ◌∷◌, ◌++◌, set, replicate, Some, None, refl}
use Rattle.reading.specs.Faults.{fault}
use Rattle.reading.specs.MachineSheets.{sheet_in, key_at, target_at, machine_fault}
use Rattle.reading.specs.Marks.{marked}
use Rattle.reading.specs.MarkSheets.{mark_fault}
use Rattle.reading.specs.RuleSheets.{automaton_in, next_state, rule_fault}
use Rattle.reading.specs.PhaseTables.{table_in, single, next_phase, phase_fault}
use Rattle.reading.specs.Records.{parts_in, choice_at, rank_at, bound_of, record_fault}

-- two states, labels 0 and 1, two signals each way; it changes state if both show 1
toggle : List ℕ
toggle =
    2 ∷ 0 ∷ 2 ∷ 2 ∷ 0 ∷ 0 ∷ 8 ∷ 0 ∷ 0 ∷ 1 ∷ 0 ∷ 0 ∷ 1 ∷ 0 ∷ 2 ∷ 0 ∷ 3 ∷ 0 ∷ 4 ∷ 0 ∷ 5 ∷ 0 ∷ 6 ∷ 0 ∷ 7 ∷ 0
    ∷ 0 ∷ 0 ∷ 0 ∷ 0 ∷ 0 ∷ 0 ∷ 1 ∷ 0 ∷ 1 ∷ 0 ∷ 1 ∷ 0 ∷ 1 ∷ 0 ∷ 0 ∷ 0 ∷ []

toggle_lawful : machine_fault toggle ≡ None
unfolding toggle
toggle_lawful = refl

toggle_move : (key_at (sheet_in toggle) 3 ≡ 3) × (target_at (sheet_in toggle) 3 ≡ 1)
unfolding toggle
toggle_move = (refl, refl)

-- a label out of range comes before a key out of range
label_first : machine_fault (set (set toggle 9 8) 24 8) ≡ Some (fault 4 9)
unfolding toggle
label_first = refl

-- a move out of order comes before a target out of range of a later move
order_first : machine_fault (set (set toggle 12 0) 40 2) ≡ Some (fault 5 12)
unfolding toggle
order_first = refl

empty_machine : machine_fault [] ≡ Some (fault 1 0)
empty_machine = refl

-- the start is tested before the number of moves, and both before the length
start_first : machine_fault (2 ∷ 0 ∷ 2 ∷ 2 ∷ 2 ∷ 0 ∷ 1 ∷ 16 ∷ []) ≡ Some (fault 2 4)
start_first = refl

-- goals 1 and 3, nothing forbidden
two_goals : List ℕ
two_goals = replicate 32 0 ++ 10 ∷ replicate 31 0

two_goals_lawful : mark_fault 4 two_goals ≡ None
unfolding two_goals
two_goals_lawful = refl

goal_out_of_range : mark_fault 3 two_goals ≡ Some (fault 4 32)
unfolding two_goals
goal_out_of_range = refl

both : mark_fault 4 (set two_goals 0 2) ≡ Some (fault 6 0)
unfolding two_goals
both = refl

empty_marks : mark_fault 4 [] ≡ Some (fault 3 0)
empty_marks = refl

last_bit : marked (replicate 31 0 ++ 128 ∷ []) 255 ≡ true
last_bit = refl

-- accepting in state 1, which label 1 leads to
rule : List ℕ
rule = 2 ∷ 2 ∷ 0 ∷ 0 ∷ 0 ∷ 1 ∷ 0 ∷ 0 ∷ 0 ∷ 0 ∷ 0 ∷ 0 ∷ 0 ∷ 1 ∷ 0 ∷ 0 ∷ 0 ∷ 0 ∷ 0 ∷ 0 ∷ []

rule_lawful : rule_fault 2 rule ≡ None
unfolding rule
rule_lawful = refl

rule_next : next_state (automaton_in rule) 0 1 ≡ 1
unfolding rule
rule_next = refl

-- accepting states are tested before the start, and 7 comes last
accepting_first : rule_fault 2 (set (set rule 1 4) 3 2) ≡ Some (fault 2 1)
unfolding rule
accepting_first = refl

too_large : rule_fault 129 rule ≡ Some (fault 7 0)
unfolding rule
too_large = refl

entry_before_too_large : rule_fault 129 (set rule 19 2) ≡ Some (fault 4 19)
unfolding rule
entry_before_too_large = refl

-- two phases, one signal of side 0, two of side 1
phases : List ℕ
phases = 2 ∷ 1 ∷ 2 ∷ 0 ∷ 1 ∷ 1 ∷ 0 ∷ []

phases_lawful : phase_fault phases ≡ None
unfolding phases
phases_lawful = refl

phase_after : next_phase (table_in phases) 0 0 1 ≡ 1
unfolding phases
phase_after = refl

phase_of_new_place : next_phase single 0 0 0 ≡ 0
phase_of_new_place = refl

phase_too_long : phase_fault (phases ++ 0 ∷ []) ≡ Some (fault 3 8)
unfolding phases
phase_too_long = refl

-- four states, one phase, two signals
plan : List ℕ
plan = 4 ∷ 0 ∷ 1 ∷ 2 ∷ 1 ∷ 1 ∷ 255 ∷ 1 ∷ 1 ∷ 1 ∷ 0 ∷ 0 ∷ 255 ∷ 255 ∷ 0 ∷ 0 ∷ []

plan_lawful : record_fault plan ≡ None
unfolding plan
plan_lawful = refl

plan_says : (choice_at (parts_in plan) 0 0 ≡ 1) × (rank_at (parts_in plan) 0 0 ≡ 257) × (choice_at (parts_in plan) 0 1 ≡ 255)
unfolding plan
plan_says = (refl, refl, refl)

-- what is not kept does not count for the bound
plan_bound : bound_of (parts_in plan) ≡ 257
unfolding plan
plan_bound = refl

choice_out_of_range : record_fault (set plan 5 2) ≡ Some (fault 4 5)
unfolding plan
choice_out_of_range = refl
