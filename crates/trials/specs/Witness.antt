-- A bay of two phases whose cell runs: offers are accepted in both phases, a goal is met after a wait, and the law holds all the way.
use Rattle.std.specs.Prelude.{◌≡◌, ℕ, ◌<◌, cond, ◌&&◌, List, [], ◌∷◌, take, drop, Some, None, Ok, Err, ◌==◌}
use Rattle.reading.specs.Sides.{both}
use Rattle.reading.specs.declared.sides.Sides.{Sides}
use Rattle.reading.specs.declared.phase_table.PhaseTable.{PhaseTable}
use Rattle.reading.specs.PhaseTables.{table_in, table_of}
use Rattle.games.specs.declared.deal.Deal.{Deal}
use Rattle.games.specs.Machines.{Model, Marks, Lawful, in_range}
use Rattle.games.specs.Signings.{Dealt}
use Rattle.checking.specs.Searching.{terms_of}
use Rattle.cell.specs.declared.calls.Question.TheVariants as question
use Rattle.cell.specs.Faults.{bare}
use Rattle.cell.specs.Logs.{Games, Offering, Log, Event, Told, offered, reported, asked, to_offer, to_report, own, ranks, phase, waits, signals_shown, ranks_shown, first, run, all_answers}
use Rattle.cell.specs.Law.{Holds, ticks, last_accepted, largest_answered}

-- a machine that goes to the state that one of the two signals names, whatever its state; where both show the same signal it goes to
-- state 2
abbrev pub follows : (ℕ → ℕ → ℕ) → Model
follows named = record {
  states = 3;
  own = 2;
  partner = 2;
  start = 0;
  label = λ s. 0;
  move = λ s a b t. in_range 3 2 2 s a b t && t == cond (a == b) 2 (named a b);
}

-- side 0's machine goes by its own signal
abbrev pub leader : Model
leader = follows (λ a b. a)

-- side 1's by its partner's, which is the same
abbrev pub follower : Model
follower = follows (λ a b. b)

-- state 2 is forbidden, state 1 is the goal
abbrev pub marks : Marks
marks = record { forbidden = λ s. s == 2; goal = λ s. s == 1 }

-- the two machines with these marks
abbrev pub bay : Games
bay = record { machines = both leader follower; marks = both marks marks }

-- two phases, two signals each way: phase 0 leads to phase 1 under signals 0 and 1, phase 1 back under 1 and 0, and under no others
abbrev pub table : List ℕ
table = 2 ∷ 2 ∷ 2 ∷ 0 ∷ 1 ∷ 0 ∷ 0 ∷ 1 ∷ 1 ∷ 0 ∷ 1 ∷ []

-- in phase 0 side 0 promises signal 0 and side 1 signal 1, in phase 1 each the other
abbrev pub promises : Sides ℕ
promises = both 33 18

-- a table and a deal of this bay
pub record Stands (t : PhaseTable) (d : Deal) : Type 0 where
  pub table : table_of t ≡ table_in table
  pub dealt : Dealt t.sizes (terms_of promises) d

-- a record that keeps states 0 and 1: its choices in phase 0 and in phase 1, and the ranks of state 0 there
abbrev pub keeping : ℕ → ℕ → ℕ → ℕ → List ℕ
keeping c0 c1 r0 r1 =
    3 ∷ 0 ∷ 2 ∷ 2
    ∷ c0 ∷ c1 ∷ c0 ∷ c1 ∷ 255 ∷ 255
    ∷ r0 ∷ 0 ∷ r1 ∷ 0 ∷ 0 ∷ 0 ∷ 0 ∷ 0 ∷ 255 ∷ 255 ∷ 255 ∷ 255
    ∷ []

-- an offer by the ranks of state 0 in phase 0 and in phase 1, of side 0 and of side 1
abbrev pub offer : PhaseTable → Deal → ℕ → ℕ → ℕ → ℕ → Offering
offer t d r0 r1 s0 s1 = record { table = t; deal = d; records = both (keeping 0 1 r0 r1) (keeping 1 0 s0 s1) }

-- an offer with ranks 5 and 3, 6 and 2
abbrev pub high : PhaseTable → Deal → Offering
high t d = offer t d 5 3 6 2

-- one with lower ranks: 3 and 1, 2 and 1
abbrev pub low : PhaseTable → Deal → Offering
low t d = offer t d 3 1 2 1

-- fourteen calls
abbrev pub calls : PhaseTable → Deal → List Event
calls t d =
    offered (high t d)
    ∷ asked question.Signals
    ∷ reported (both 0 0)
    ∷ asked question.Phase
    ∷ asked question.Ranks
    ∷ offered (high t d)
    ∷ offered (low t d)
    ∷ asked question.Phase
    ∷ reported (both 0 1)
    ∷ reported (both 0 0)
    ∷ asked question.Waits
    ∷ reported (both 1 1)
    ∷ asked question.Waits
    ∷ asked question.Phase
    ∷ []

-- the ranks of both sides fall from 5 and 6 to 3 and 2 as phase 1 begins; the same offer would raise them, and is refused for side 0.
-- A lower one is accepted, in phase 1, and phase 0 begins again. Only side 1 is then said to be at the goal, which its machine cannot
-- be. After two ticks of waiting both are
abbrev pub told : List Told
told =
    to_offer (Ok (both 5 6))
    ∷ signals_shown (both 0 1)
    ∷ to_report (Ok (both 1 0))
    ∷ phase 1
    ∷ ranks_shown (both 3 2)
    ∷ to_offer (Err (bare 31 0))
    ∷ to_offer (Ok (both 3 2))
    ∷ phase 0
    ∷ to_report (Err (bare 33 1))
    ∷ to_report (Ok (both 1 0))
    ∷ waits (both 2 2)
    ∷ to_report (Ok (both 0 1))
    ∷ waits (both 0 0)
    ∷ phase 0
    ∷ []

-- an offer is in force, and under it the law holds
abbrev pub Runs : Log → Type 0
Runs l = (o : Offering) × (l.force ≡ Some o) × Holds bay l o

-- side 1's rank is 2, and two ticks pass with the later calls
abbrev pub Soon : Log → List Event → Type 0
Soon l later = (own 1 (ranks l) ≡ 2) × (ticks (all_answers bay later l) ≡ 2)

-- the machines are lawful, and there are such a table and deal. With any, the log answers so, and the law holds after each call, under
-- the offer that was accepted last; as many ticks pass after the lower offer as side 1's rank says then; the largest bounds are those of
-- the first offer
pub record Witness : Type 0 where
  pub leads : Lawful leader
  pub follows : Lawful follower
  pub there : (t : PhaseTable) × (d : Deal) × Stands t d
  pub answers : (t : PhaseTable) (d : Deal) → Stands t d → all_answers bay (calls t d) (first bay) ≡ told
  pub runs : (t : PhaseTable) (d : Deal) → Stands t d → (n : ℕ) → 0 < n → Runs (run bay (take n (calls t d)) (first bay))
  pub soon : (t : PhaseTable) (d : Deal) → Stands t d → Soon (run bay (take 7 (calls t d)) (first bay)) (drop 7 (calls t d))
  pub last : (t : PhaseTable) (d : Deal) → last_accepted (calls t d) told None ≡ Some (low t d)
  pub largest : largest_answered told (both 0 0) ≡ both 5 6
