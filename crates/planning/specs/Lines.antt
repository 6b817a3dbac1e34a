-- Plans in print.
use Rattle.std.specs.Prelude.{ℕ, zero, suc, cond, ◌&&◌, List, [], ◌++◌, codes, decimal, vec_items, Some, None, Ok, Err, Option, Result, ◌==◌}
use Rattle.reading.specs.Faults.{Fault}
use Rattle.reading.specs.Records.{Parts, parts_in, choice_at, rank_at, record_fault}
use Rattle.checking.specs.declared.faults.SolveFault.{SolveFault}
use Rattle.checking.specs.declared.faults.SolveFault.TheVariants as fault
use Rattle.checking.specs.Solutions.{solve_number}
use Rattle.planning.specs.declared.plans.Plan.{Plan}
use Rattle.planning.specs.declared.plans.Plans.{Plans}

-- what a controller does by a choice and a rank: 255 and 65,535 stand for neither
abbrev pub action : ℕ → ℕ → List ℕ
action choice rank =
    cond (choice == 255 && rank == 65535) (codes "no way to a goal")
    (cond (rank == 0) (codes "show signal " ++ (decimal choice ++ codes ", at a goal"))
    (cond (rank == 1) (codes "show signal " ++ (decimal choice ++ codes ", goal in at most 1 tick"))
    (codes "show signal " ++ (decimal choice ++ (codes ", goal in at most " ++ (decimal rank ++ codes " ticks"))))))

-- the line of a record for a state in a phase
abbrev pub position_line : Parts → ℕ → ℕ → List ℕ
position_line r s p = codes "  state " ++ (decimal s ++ (codes ", phase " ++ (decimal p ++ (codes ": " ++ (action (choice_at r s p) (rank_at r s p) ++ codes "\n")))))

-- the lines of a state in the first phases
unfoldable pub state_lines : Parts → ℕ → ℕ → List ℕ
state_lines r s zero = []
state_lines r s (suc p) = state_lines r s p ++ position_line r s p

-- the lines of the first states in all phases
unfoldable pub table_lines : Parts → ℕ → List ℕ
table_lines r zero = []
table_lines r (suc s) = table_lines r s ++ state_lines r s r.phases

-- the table of a record, if it can be read: what solving wrote can be
abbrev pub table_of : Option Fault → Parts → List ℕ
table_of None r = table_lines r r.states
table_of (Some f) r = []

-- why a side has no table, and what to do
abbrev pub reason : SolveFault → List ℕ
reason fault.Sizes = codes "the signals of its machine are not those of the phase table. Use a machine and a table that fit."
reason fault.Buffer = codes "there is no room for its record. Make room for one."
reason fault.NoController = codes "it has no controller. Let it promise more or rely on less, or ease its rules."

-- what solving answered, and the table that it wrote
abbrev pub plan_lines : Result ℕ SolveFault → List ℕ → List ℕ
plan_lines (Ok bound) xs = codes "from anywhere that it keeps, a goal in at most " ++ (decimal bound ++ (codes " ticks\n" ++ table_of (record_fault xs) (parts_in xs)))
plan_lines (Err f) xs = codes "refused " ++ (decimal (solve_number f) ++ (codes ": " ++ (reason f ++ codes "\n")))

-- the plan of a side
abbrev pub side_lines : Plan → List ℕ
side_lines p = plan_lines p.answer (vec_items p.record)

-- both plans
abbrev pub lines : Plans → List ℕ
lines p = codes "side 0: " ++ (side_lines p.sides.first ++ (codes "side 1: " ++ side_lines p.sides.second))
