-- The order of the faults of a check, and what makes a record a ranked controller.
use Rattle.std.specs.Prelude.{◌≡◌, ℕ, Bool, not, ◌&&◌, ◌||◌, List, Some, None, Ok, Err, Option, Result, ◌==◌, nat_lt}
use Rattle.std.specs.Bool.{beq}
use Rattle.std.specs.Option.{option_map}
use Rattle.reading.specs.Firsts.{first_some, first_below, unless, where_so, some_below}
use Rattle.reading.specs.Records.{Parts, parts_of, parts_in, kept, bound_of, record_fault, Lawful}
use Rattle.reading.specs.declared.phase_table.PhaseTable.{PhaseTable}
use Rattle.reading.specs.declared.records.Position.{Position}
use Rattle.games.specs.declared.deal.Deal.{Deal}
use Rattle.games.specs.Machines.{Model, Marks}
use Rattle.checking.specs.declared.faults.CheckFault.TheVariants.{Sizes, RecordSizes, HalfKept, StartAbsent, Forbidden, NotPromised, GoalRank, NoNext, NextAbsent, NotLower}
use Rattle.checking.specs.declared.check.proposal.Proposal.{Proposal}
use Rattle.checking.specs.Arenas.{Arena, arena, suits, Suits}
use Rattle.checking.specs.Controllers.{Plan, plan_of, plan_in, Controller}
use Rattle.checking.specs.Faults.{Refusal, numbers, unread}

-- a state and a phase as one value
abbrev pub at : ℕ → ℕ → Position
at s p = record { state = s; phase = p }

-- the plan that is put forward
abbrev pub put : {G : Type 0} → Proposal G → Plan
put x = plan_of (parts_of x.plan)

-- whether a position is kept: not if choice and rank are both absent
abbrev pub keeps : Plan → ℕ → ℕ → Bool
keeps c s p = kept (c.choice s p) (c.rank s p)

-- whether choice and rank are both there or both absent
abbrev pub whole : Plan → ℕ → ℕ → Bool
whole c s p = beq (c.choice s p == 255) (c.rank s p == 65535)

-- at a next state t: its position is not kept, or its rank is not lower and the state is no goal
abbrev pub next_fault : Arena → Plan → ℕ → ℕ → ℕ → ℕ → Option Refusal
next_fault a c s p b t =
    where_so (a.move s (c.choice s p) b t)
    (first_some (unless (keeps c t (a.follow p (c.choice s p) b)) (numbers (NextAbsent (at s p) b t)))
    (unless (a.goal s || nat_lt (c.rank t (a.follow p (c.choice s p) b)) (c.rank s p)) (numbers (NotLower (at s p) b t))))

-- under a partner signal b that is relied on: there is no next state, then next state by next state
abbrev pub partner_fault : Arena → Plan → ℕ → ℕ → ℕ → Option Refusal
partner_fault a c s p b =
    where_so (a.relied p b)
    (first_some (unless (some_below a.states (a.move s (c.choice s p) b)) (numbers (NoNext (at s p) b)))
    (first_below a.states (next_fault a c s p b)))

-- at a kept position: the state is forbidden, the choice is not promised, the rank is 0 elsewhere than at a goal or a goal's is not
abbrev pub kept_fault : Arena → Plan → ℕ → ℕ → Option Refusal
kept_fault a c s p =
    first_some (unless (not (a.forbidden s)) (numbers (Forbidden (at s p))))
    (first_some (unless (a.promised p (c.choice s p)) (numbers (NotPromised (at s p))))
    (unless (beq (a.goal s) (c.rank s p == 0)) (numbers (GoalRank (at s p)))))

-- at the position of state s in phase p: only one of choice and rank is absent; if it is kept, what it says for itself, then partner
-- signal by partner signal
abbrev pub position_fault : Arena → Plan → ℕ → ℕ → Option Refusal
position_fault a c s p =
    first_some (unless (whole c s p) (numbers (HalfKept (at s p))))
    (where_so (keeps c s p) (first_some (kept_fault a c s p) (first_below a.partner (partner_fault a c s p))))

-- position by position, as s × P + p ascends
abbrev pub positions_fault : Arena → Plan → Option Refusal
positions_fault a c = first_below a.states (λ s. first_below a.phases (position_fault a c s))

-- the start is not kept in phase 0, then position by position
abbrev pub plan_fault : Arena → Plan → Option Refusal
plan_fault a c = first_some (unless (keeps c a.start 0) (numbers (StartAbsent a.start))) (positions_fault a c)

-- whether a record is of the sizes of game and table
abbrev pub sized : Model → PhaseTable → Parts → Bool
sized m t r = r.states == m.states && (r.phases == t.sizes.phases && r.signals == m.own)

-- the same in words
pub record Sized (m : Model) (t : PhaseTable) (r : Parts) : Type 0 where
  pub states : r.states ≡ m.states
  pub phases : r.phases ≡ t.sizes.phases
  pub signals : r.signals ≡ m.own

-- the first fault of a check: side and sizes of game, table and deal; reading; sizes of the record; then the plan
abbrev pub check_fault : Model → Marks → PhaseTable → Deal → ℕ → List ℕ → Option Refusal
check_fault m k t d side xs =
    first_some (unless (suits m t d side) (numbers Sizes))
    (first_some (option_map unread (record_fault xs))
    (first_some (unless (sized m t (parts_in xs)) (numbers RecordSizes))
    (plan_fault (arena m k t d side) (plan_in xs))))

-- the bound, unless there is a fault
abbrev pub answer : Option Refusal → ℕ → Result ℕ Refusal
answer (Some f) b = Err f
answer None b = Ok b

-- what a check answers
abbrev pub check_answer : Model → Marks → PhaseTable → Deal → ℕ → List ℕ → Result ℕ Refusal
check_answer m k t d side xs = answer (check_fault m k t d side xs) (bound_of (parts_in xs))

-- the bytes are a ranked controller for a game, a table, a deal and a side
pub record Ranked (m : Model) (k : Marks) (t : PhaseTable) (d : Deal) (side : ℕ) (xs : List ℕ) : Type 0 where
  pub suits : Suits m t d side
  pub lawful : Lawful xs
  pub sized : Sized m t (parts_in xs)
  pub controller : Controller (arena m k t d side) (plan_in xs)
