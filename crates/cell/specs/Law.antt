-- What is promised of a cell over any run of calls.
use Rattle.std.specs.Prelude.{◌≡◌, ℕ, ◌+◌, ◌≤◌, max, Bool, true, false, List, take, [], ◌∷◌, Some, None, Ok, Err, Option, Result, is_some}
use Rattle.reading.specs.Sides.{both, pick}
use Rattle.reading.specs.declared.sides.Sides.{Sides}
use Rattle.games.specs.Machines.{forbidden_in, goal_in}
use Rattle.checking.specs.Arenas.{promised, relied}
use Rattle.reading.specs.Records.{parts_in, rank_at}
use Rattle.checking.specs.Controllers.{plan_in, Kept}
use Rattle.checking.specs.Checks.{Ranked}
use Rattle.cell.specs.Faults.{Refusal}
use Rattle.cell.specs.Logs.{Games, Log, Event, Told, offered, reported, asked, to_offer, to_report, states, phase, waits, signals_shown, ranks_shown, Offering, own, first, signals, ranks, moves, answers_report, answers, after, run, all_answers}

-- a side can go over to its new record: it keeps the present state in phase 0, at a rank that is not above the present one
pub record GoesOver (l : Log) (o : Offering) (side : ℕ) : Type 0 where
  pub kept : Kept (plan_in (own side o.records)) (own side l.at.states) 0
  pub falls : rank_at (parts_in (own side o.records)) (own side l.at.states) 0 ≤ own side (ranks l)

-- when an offer is accepted, in words: each record is a ranked controller for its side, and if there is an offer in force each side can
-- go over to its new record
pub record Acceptable (g : Games) (l : Log) (o : Offering) : Type 0 where
  pub first : Ranked g.machines.first g.marks.first o.table o.deal 0 o.records.first
  pub second : Ranked g.machines.second g.marks.second o.table o.deal 1 o.records.second
  pub go_over : is_some l.force ≡ true → GoesOver l o 0 × GoesOver l o 1

-- what is guaranteed of a side, under the offer in force
pub record Guarantee (g : Games) (l : Log) (o : Offering) (side : ℕ) : Type 0 where
  -- its machine stands in no forbidden state
  pub safe : forbidden_in (own side g.machines) (own side g.marks) (own side l.at.states) ≡ false
  -- the signal that it shows is promised by it, and relied on by its partner, in the present phase
  pub promised : promised o.deal side l.at.phase (own side (signals l)) ≡ true
  pub relied : relied o.deal (pick side 1 0) l.at.phase (own side (signals l)) ≡ true
  -- its wait plus its rank is at most one more than the largest bound that an accepted offer has answered for it; so it never waits
  -- longer than that bound
  pub due : own side l.at.waits + own side (ranks l) ≤ own side l.at.bounds + 1
  pub patient : own side l.at.waits ≤ own side l.at.bounds
  -- under the signals shown its machine has a possible next state
  pub goes : (to : ℕ) × (moves g l side to ≡ true)

-- each machine can move to the state that is named for it
abbrev pub BothMove : Games → Log → Sides ℕ → Type 0
BothMove g l to = (moves g l 0 to.first ≡ true) × (moves g l 1 to.second ≡ true)

-- a report is answered by signals
abbrev pub Accepted : Result (Sides ℕ) Refusal → Type 0
Accepted r = (x : Sides ℕ) × (r ≡ Ok x)

-- the law at a log under the offer in force: the guarantee of each side, and a report is accepted exactly if both machines can move so
pub record Holds (g : Games) (l : Log) (o : Offering) : Type 0 where
  pub first : Guarantee g l o 0
  pub second : Guarantee g l o 1
  pub only_moves : (to : Sides ℕ) → Accepted (answers_report g l to) → BothMove g l to
  pub all_moves : (to : Sides ℕ) → BothMove g l to → Accepted (answers_report g l to)

-- the law at any log: from the first accepted offer on, it holds
abbrev pub Lawful : Games → Log → Type 0
Lawful g l = (o : Offering) → l.force ≡ Some o → Holds g l o

-- what a call and its answer make of a value: another one if an offer was accepted
abbrev pub if_accepted : {A : Type 0} → Told → A → A → A
if_accepted (to_offer (Ok b)) x y = x
if_accepted (to_offer (Err f)) x y = y
if_accepted (to_report r) x y = y
if_accepted (states s) x y = y
if_accepted (phase p) x y = y
if_accepted (waits w) x y = y
if_accepted (signals_shown s) x y = y
if_accepted (ranks_shown r) x y = y

-- the last accepted offer after a call and its answer
abbrev pub accepted_by : Event → Told → Option Offering → Option Offering
accepted_by (offered o) a before = if_accepted a (Some o) before
accepted_by (reported to) a before = before
accepted_by (asked q) a before = before

-- the last offer that was accepted, told from calls and answers alone
unfoldable pub last_accepted : List Event → List Told → Option Offering → Option Offering
last_accepted [] given before = before
last_accepted (e ∷ es) [] before = before
last_accepted (e ∷ es) (a ∷ given) before = last_accepted es given (accepted_by e a before)

-- for each side the larger of a bound and what an answer tells, if it is that of an accepted offer
abbrev pub raised : Told → Sides ℕ → Sides ℕ
raised (to_offer (Ok b)) m = both (max m.first b.first) (max m.second b.second)
raised (to_offer (Err f)) m = m
raised (to_report r) m = m
raised (states s) m = m
raised (phase p) m = m
raised (waits w) m = m
raised (signals_shown s) m = m
raised (ranks_shown r) m = m

-- for each side the largest bound that an accepted offer has answered, told from the answers alone
unfoldable pub largest_answered : List Told → Sides ℕ → Sides ℕ
largest_answered [] m = m
largest_answered (a ∷ given) m = largest_answered given (raised a m)

-- a side's machine is at a goal
abbrev pub at_goal : Games → Log → ℕ → Bool
at_goal g l side = goal_in (own side g.machines) (own side g.marks) (own side l.at.states)

-- a tick passes with each accepted report
abbrev pub tick : Told → ℕ
tick (to_report (Ok s)) = 1
tick (to_report (Err f)) = 0
tick (to_offer r) = 0
tick (states s) = 0
tick (phase p) = 0
tick (waits w) = 0
tick (signals_shown s) = 0
tick (ranks_shown r) = 0

-- how many ticks have passed, told from the answers alone
unfoldable pub ticks : List Told → ℕ
ticks [] = 0
ticks (a ∷ given) = tick a + ticks given

-- a call brings a side nearer: unless its machine is at a goal its rank falls if a tick passes, and does not rise if none does
abbrev pub Nears : Games → Log → Event → ℕ → Type 0
Nears g l e side = at_goal g l side ≡ false → own side (ranks (after g l e)) + tick (answers g l e) ≤ own side (ranks l)

-- a rank comes true: after some calls an offer is in force; if as many ticks pass with the calls right after them as a side's rank then
-- says, its machine is at a goal after some first part of these, or was when they began
abbrev pub InTime : Games → List Event → List Event → ℕ → Type 0
InTime g before later side =
    is_some (run g before (first g)).force ≡ true
    → own side (ranks (run g before (first g))) ≤ ticks (all_answers g later (run g before (first g)))
    → (n : ℕ) × (at_goal g (run g (take n later) (run g before (first g))) side ≡ true)

-- the law of the cell, after some calls: the offer in force is the last that was accepted, the largest bounds are those that accepted
-- offers have answered, and from the first accepted offer on what is guaranteed holds
pub record Law (g : Games) (events : List Event) : Type 0 where
  pub force : (run g events (first g)).force ≡ last_accepted events (all_answers g events (first g)) None
  pub bounds : (run g events (first g)).at.bounds ≡ largest_answered (all_answers g events (first g)) (both 0 0)
  pub holds : Lawful g (run g events (first g))
