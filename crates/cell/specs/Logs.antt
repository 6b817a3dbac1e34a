-- What a cell answers, told from its games and the calls alone.
use Rattle.std.specs.Prelude.{ℕ, ◌+◌, max, Bool, cond, not, List, [], ◌∷◌, Some, None, Ok, Err, Option, Result, is_some, ◌==◌, nat_le}
use Rattle.std.specs.Option.{option_map}
use Rattle.reading.specs.Firsts.{first_some, unless}
use Rattle.reading.specs.Records.{parts_in, choice_at, rank_at, bound_of}
use Rattle.reading.specs.PhaseTables.{table_of, next_phase}
use Rattle.reading.specs.Sides.{both, pick}
use Rattle.reading.specs.declared.sides.Sides.{Sides}
use Rattle.reading.specs.declared.phase_table.PhaseTable.{PhaseTable}
use Rattle.games.specs.declared.deal.Deal.{Deal}
use Rattle.games.specs.Machines.{Model, Marks, goal_in}
use Rattle.checking.specs.Controllers.{plan_in}
use Rattle.checking.specs.Checks.{keeps, check_fault}
use Rattle.cell.specs.declared.faults.CellFault.TheVariants.{NotKept, RankRises, Idle, NoChoice, NoSuchMove}
use Rattle.cell.specs.declared.calls.Question.{Question}
use Rattle.cell.specs.declared.calls.Question.TheVariants as question
use Rattle.cell.specs.declared.copies.Standing.{Standing}
use Rattle.cell.specs.Faults.{Refusal, about, numbers}

-- what the games of both sides mean
pub record Games : Type 0 where
  pub machines : Sides Model
  pub marks : Sides Marks

-- a side's value
abbrev pub own : {A : Type 0} → ℕ → Sides A → A
own side x = pick side x.first x.second

-- its partner's
abbrev pub partner : {A : Type 0} → ℕ → Sides A → A
partner side x = pick side x.second x.first

-- an offer: a phase table, a signed deal, and the bytes of each side's record
pub record Offering : Type 0 where
  pub table : PhaseTable
  pub deal : Deal
  pub records : Sides (List ℕ)

-- a call with its arguments: an offer, a report of both next states, a question
pub data Event : Type 0 where
  offered : Offering → Event
  reported : Sides ℕ → Event
  asked : Question → Event

-- what is answered: to an offer both bounds, to a report the signals shown next, or a refusal; and the answers to questions
pub data Told : Type 0 where
  to_offer : Result (Sides ℕ) Refusal → Told
  to_report : Result (Sides ℕ) Refusal → Told
  states : Sides ℕ → Told
  phase : ℕ → Told
  waits : Sides ℕ → Told
  signals_shown : Sides ℕ → Told
  ranks_shown : Sides ℕ → Told

-- a log: where both machines stand, the phase, how long each has waited, the largest bounds; and the offer in force, if there is one
pub record Log : Type 0 where
  pub at : Standing
  pub force : Option Offering

-- where two machines begin: no wait, no bound, phase 0
abbrev pub begun : Sides ℕ → Standing
begun at = record { states = at; phase = 0; waits = both 0 0; bounds = both 0 0 }

-- the log before any call
abbrev pub first : Games → Log
first g = record { at = begun (both g.machines.first.start g.machines.second.start); force = None }

-- the signals shown: the choices at the present positions of the records in force
abbrev pub signals_in : Option Offering → Standing → Sides ℕ
signals_in None a = both 255 255
signals_in (Some o) a = both (choice_at (parts_in o.records.first) a.states.first a.phase) (choice_at (parts_in o.records.second) a.states.second a.phase)

-- the ranks at the present positions of the records in force
abbrev pub ranks_in : Option Offering → Standing → Sides ℕ
ranks_in None a = both 65535 65535
ranks_in (Some o) a = both (rank_at (parts_in o.records.first) a.states.first a.phase) (rank_at (parts_in o.records.second) a.states.second a.phase)

-- the signals that a log shows
abbrev pub signals : Log → Sides ℕ
signals l = signals_in l.force l.at

-- the ranks that it gives
abbrev pub ranks : Log → Sides ℕ
ranks l = ranks_in l.force l.at

-- a value, unless there is a refusal
abbrev pub unless_refused : {A : Type 0} → Option Refusal → A → Result A Refusal
unless_refused (Some f) x = Err f
unless_refused None x = Ok x

-- a side's record is no ranked controller for its game
abbrev pub side_fault : Model → Marks → Offering → ℕ → Option Refusal
side_fault m k o side = option_map (about side) (check_fault m k o.table o.deal side (own side o.records))

-- the same by the games of both sides
abbrev pub record_fault : Games → Offering → ℕ → Option Refusal
record_fault g o side = side_fault (own side g.machines) (own side g.marks) o side

-- a side of a running cell: its state is not kept in phase 0 of the new record, or the rank there is above the present one
abbrev pub change_fault : Standing → Sides ℕ → Offering → ℕ → Option Refusal
change_fault a ranks o side =
    first_some (unless (keeps (plan_in (own side o.records)) (own side a.states) 0) (numbers (NotKept side)))
    (unless (nat_le (rank_at (parts_in (own side o.records)) (own side a.states) 0) (own side ranks)) (numbers (RankRises side)))

-- the same of both sides, when an offer is in force
abbrev pub changes_fault : Option Offering → Standing → Offering → Option Refusal
changes_fault None a o = None
changes_fault (Some was) a o = first_some (change_fault a (ranks_in (Some was) a) o 0) (change_fault a (ranks_in (Some was) a) o 1)

-- the first refusal of an offer: each side's record is checked, then each side's change
abbrev pub offer_fault : Games → Log → Offering → Option Refusal
offer_fault g l o = first_some (record_fault g o 0) (first_some (record_fault g o 1) (changes_fault l.force l.at o))

-- the bounds of an offer's records
abbrev pub bounds_of : Offering → Sides ℕ
bounds_of o = both (bound_of (parts_in o.records.first)) (bound_of (parts_in o.records.second))

-- what an offer is answered: its bounds, or the first refusal
unfoldable pub answers_offer : Games → Log → Offering → Result (Sides ℕ) Refusal
answers_offer g l o = unless_refused (offer_fault g l o) (bounds_of o)

-- an accepted offer comes into force: from phase 0 on, and each largest bound is raised to its record's if that is higher
abbrev pub taken : Sides ℕ → Standing → Standing
taken b a = record {
  states = a.states;
  phase = 0;
  waits = a.waits;
  bounds = both (max a.bounds.first b.first) (max a.bounds.second b.second);
}

-- the log after it
abbrev pub in_force : Offering → Log → Log
in_force o l = record { at = taken (bounds_of o) l.at; force = Some o }

-- whether a side's machine can move to a state under the signals shown
abbrev pub moves : Games → Log → ℕ → ℕ → Bool
moves g l side to = (own side g.machines).move (own side l.at.states) (own side (signals l)) (partner side (signals l)) to

-- a side has no choice at its present position
abbrev pub choice_fault : Log → ℕ → Option Refusal
choice_fault l side = unless (not (own side (signals l) == 255)) (numbers (NoChoice side))

-- a side's machine cannot move to the state that is reported
abbrev pub move_fault : Games → Log → Sides ℕ → ℕ → Option Refusal
move_fault g l to side = unless (moves g l side (own side to)) (numbers (NoSuchMove side))

-- the first refusal of a report while an offer is in force: each side's choice, then each side's move
abbrev pub running_fault : Games → Log → Sides ℕ → Option Refusal
running_fault g l to =
    first_some (choice_fault l 0)
    (first_some (choice_fault l 1)
    (first_some (move_fault g l to 0) (move_fault g l to 1)))

-- the same at any time: first, that there is no offer in force
abbrev pub report_fault : Games → Log → Sides ℕ → Option Refusal
report_fault g l to = first_some (unless (is_some l.force) (numbers Idle)) (running_fault g l to)

-- how long a machine has waited: not at all at a goal, else one tick more
abbrev pub waited : Bool → ℕ → ℕ
waited goal wait = cond goal 0 (wait + 1)

-- the phase follows the table in force, under the signals shown before
abbrev pub phase_after : Option Offering → Standing → ℕ
phase_after None a = a.phase
phase_after (Some o) a = next_phase (table_of o.table) a.phase (signals_in (Some o) a).first (signals_in (Some o) a).second

-- an accepted report moves states, phase and waits
unfoldable pub moved : Games → Sides ℕ → Log → Log
moved g to l = record {
  at = record {
    states = to;
    phase = phase_after l.force l.at;
    waits = both
        (waited (goal_in g.machines.first g.marks.first to.first) l.at.waits.first)
        (waited (goal_in g.machines.second g.marks.second to.second) l.at.waits.second);
    bounds = l.at.bounds;
  };
  force = l.force;
}

-- what a report is answered: the signals shown next, or the first refusal
unfoldable pub answers_report : Games → Log → Sides ℕ → Result (Sides ℕ) Refusal
answers_report g l to = unless_refused (report_fault g l to) (signals (moved g to l))

-- what a question is answered
abbrev pub answers_question : Log → Question → Told
answers_question l question.States = states l.at.states
answers_question l question.Phase = phase l.at.phase
answers_question l question.Waits = waits l.at.waits
answers_question l question.Signals = signals_shown (signals l)
answers_question l question.Ranks = ranks_shown (ranks l)

-- the log's answer to a call
abbrev pub answers : Games → Log → Event → Told
answers g l (offered o) = to_offer (answers_offer g l o)
answers g l (reported to) = to_report (answers_report g l to)
answers g l (asked q) = answers_question l q

-- the new log unless there is a refusal
abbrev pub unless_err : {A : Type 0} → Result A Refusal → Log → Log → Log
unless_err (Ok x) new old = new
unless_err (Err f) new old = old

-- the log after a call: what is refused, and a question, changes nothing
abbrev pub after : Games → Log → Event → Log
after g l (offered o) = unless_err (answers_offer g l o) (in_force o l) l
after g l (reported to) = unless_err (answers_report g l to) (moved g to l) l
after g l (asked q) = l

-- the log after some calls
unfoldable pub run : Games → List Event → Log → Log
run g [] l = l
run g (e ∷ es) l = run g es (after g l e)

-- the answers to them, one for one
unfoldable pub all_answers : Games → List Event → Log → List Told
all_answers g [] l = []
all_answers g (e ∷ es) l = answers g l e ∷ all_answers g es (after g l e)
