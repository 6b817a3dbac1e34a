-- What a cell shows, and what its calls do to the log that it shows.
use Rattle.std.specs.Prelude.{◌≡◌, ℕ, ◌+◌, ◌-◌, ◌^◌, min, Bool, cond, List, [], ◌∷◌, ◌++◌, length, map, take, drop, Some, None, Option, Result, IfErr, vec_items, true, is_some}
use Rattle.std.specs.Option.{option_map}
use Rattle.std.specs.Result.{result_map_both, result_err}
use Rattle.reading.specs.Records.{parts_in, bound_of}
use Rattle.reading.specs.Sides.{both}
use Rattle.reading.specs.declared.sides.Sides.{Sides}
use Rattle.games.specs.Machines.{Model, Marks}
use Rattle.checking.specs.Controllers.{plan_in, Bound}
use Rattle.checking.specs.Checks.{Ranked}
use Rattle.cell.specs.declared.faults.CellFault.{CellFault}
use Rattle.cell.specs.declared.copies.Mode.{Mode}
use Rattle.cell.specs.declared.copies.Mode.TheVariants as mode
use Rattle.cell.specs.declared.copies.Copies.{Copies}
use Rattle.cell.specs.declared.cell.Cell.{Cell}
use Rattle.cell.specs.declared.cell.Room.{Room}
use Rattle.cell.specs.declared.calls.Answer.{Answer}
use Rattle.cell.specs.declared.calls.Answer.TheVariants as answer
use Rattle.cell.specs.declared.calls.Question.{Question}
use Rattle.cell.specs.declared.calls.Offer.{Offer}
use Rattle.cell.specs.declared.calls.OwnedOffer.{OwnedOffer}
use Rattle.cell.specs.declared.calls.Call.{Call}
use Rattle.cell.specs.declared.calls.Call.TheVariants as call
use Rattle.cell.specs.Faults.{Refusal, numbers}
use Rattle.cell.specs.Logs.{Games, own, Log, Event, Told, asked, offered, reported, to_offer, to_report, states, phase, waits, signals_shown, ranks_shown, Offering, first, run, answers, all_answers, phase_after, taken}
use Rattle.cell.specs.Law.{Law, Nears, InTime}
use Rattle.cell.specs.Running.{Good}

-- a result as the log has it: each fault by its number, its values and its side
abbrev pub told_result : Result (Sides ℕ) CellFault → Result (Sides ℕ) Refusal
told_result = result_map_both (λ x. x) numbers

-- the refusal in an answer, none where it has a value
abbrev pub refused : {A : Type 0} → Result A CellFault → Option Refusal
refused r = option_map numbers (result_err r)

-- an answer of the cell as the log has it
abbrev pub told : Answer → Told
told (answer.Offered r) = to_offer (told_result r)
told (answer.Reported r) = to_report (told_result r)
told (answer.States x) = states x
told (answer.Phase p) = phase p
told (answer.Waits x) = waits x
told (answer.Signals x) = signals_shown x
told (answer.Ranks x) = ranks_shown x

-- an offer that a caller passes, as the log has it
abbrev pub offering : Offer → Offering
offering o = record { table = o.table.now; deal = o.deal.now; records = both o.records.first.now o.records.second.now }

-- an offer in a list of calls
abbrev pub owned : OwnedOffer → Offering
owned o = record { table = o.table; deal = o.deal; records = both (vec_items o.records.first) (vec_items o.records.second) }

-- a call
abbrev pub event : Call → Event
event (call.Offer o) = offered (owned o)
event (call.Report r) = reported r.states
event (call.Ask q) = asked q

-- room that holds no record yet
abbrev pub Empty : Room → Type 0
Empty r = (vec_items r.records.first.bytes ≡ []) × (vec_items r.records.second.bytes ≡ [])

-- the offer that a cell holds copies of
abbrev pub copied : Copies → Offering
copied x = record { table = x.table; deal = x.deal; records = both (vec_items x.records.first.bytes) (vec_items x.records.second.bytes) }

-- the offer in force in a cell, by whether it runs
abbrev pub force_in : Mode → Copies → Option Offering
force_in mode.Idle x = None
force_in mode.Running x = Some (copied x)

-- the log that a cell shows, by its mode and its copies
abbrev pub shown : Mode → Copies → Log
shown m x = record { at = x.standing; force = force_in m x }

-- the same of a running cell
abbrev pub shown_running : Copies → Log
shown_running = shown mode.Running

-- what a side's record of an accepted offer is: a ranked controller with its bound
pub record Passed (m : Model) (k : Marks) (o : Offering) (side bound : ℕ) : Type 0 where
  pub ranked : Ranked m k o.table o.deal side (own side o.records)
  pub largest : Bound (plan_in (own side o.records)) bound
  pub value : bound ≡ bound_of (parts_in (own side o.records))

-- the log that a cell shows
abbrev pub seen : {A B : Type 0} → Cell A B → Log
seen c = shown c.mode c.copies

-- a refused call and a question leave a cell as it was
abbrev pub Stays : {A B : Type 0} → Answer → Cell A B → Cell A B → Type 0
Stays (answer.Offered r) x y = IfErr r (λ _. y ≡ x)
Stays (answer.Reported r) x y = IfErr r (λ _. y ≡ x)
Stays (answer.States s) x y = y ≡ x
Stays (answer.Phase p) x y = y ≡ x
Stays (answer.Waits w) x y = y ≡ x
Stays (answer.Signals s) x y = y ≡ x
Stays (answer.Ranks r) x y = y ≡ x

module _ {A B : Type 0} (m0 : A → Model) (k0 : A → Marks) (m1 : B → Model) (k1 : B → Marks) where
  -- what two games mean
  abbrev pub both_mean : A → B → Games
  both_mean x y = record { machines = both (m0 x) (m1 y); marks = both (k0 x) (k1 y) }

  -- what the games of a cell mean
  abbrev pub games : Cell A B → Games
  games c = both_mean c.first c.second

  -- a cell tells of some calls: the log after them is what the cell shows, and what every log keeps holds of it
  pub record Tells (events : List Event) (c : Cell A B) : Type 0 where
    pub same : shown c.mode c.copies ≡ run (games c) events (first (games c))
    pub good : Good (games c) (shown c.mode c.copies)

  -- what a call does to a cell: the answer is that of the log that the cell shows, so that of the log after any calls that it tells
  -- of; it then tells of those calls and this one, and the law holds after them; and the call brings each side nearer to its goal
  pub record Heard (before : Cell A B) (e : Event) (a : Told) (next : Cell A B) : Type 0 where
    pub first_game : next.first ≡ before.first
    pub second_game : next.second ≡ before.second
    pub by_shown : a ≡ answers (games before) (shown before.mode before.copies) e
    pub answered : (events : List Event) → Tells events before → a ≡ answers (games before) (run (games before) events (first (games before))) e
    pub tells : (events : List Event) → Tells events before → Tells (events ++ e ∷ []) next
    pub law : (events : List Event) → Tells events before → Law (games before) (events ++ e ∷ [])
    pub nears : (events : List Event) → Tells events before → is_some (shown before.mode before.copies).force ≡ true →
        Nears (games before) (shown before.mode before.copies) e 0 × Nears (games before) (shown before.mode before.copies) e 1

  -- what a question is answered
  pub record Answered (c : Cell A B) (q : Question) (a : Told) : Type 0 where
    pub by_shown : a ≡ answers (games c) (shown c.mode c.copies) (asked q)
    pub answered : (events : List Event) → Tells events c → a ≡ answers (games c) (run (games c) events (first (games c))) (asked q)

  -- a cell just made over two games
  pub record Made (x : A) (y : B) (c : Cell A B) : Type 0 where
    pub first_game : c.first ≡ x
    pub second_game : c.second ≡ y
    pub tells : Tells [] c

-- a run of calls, put to a cell just made over two games: the answers are the log's, one for one; after every first part of the calls
-- the law holds, and the ranks there come true in any calls right after it
pub record Replayed (g : Games) (events : List Event) (given : List Told) : Type 0 where
  pub answered : given ≡ all_answers g events (first g)
  pub law : (n : ℕ) → Law g (take n events)
  pub in_time : (n m : ℕ) → InTime g (take n events) (take m (drop n events)) 0 × InTime g (take n events) (take m (drop n events)) 1

-- what is replayed into a buffer: as many calls as it has room for, their answers at its front, and the rest of it unchanged
pub record Fills (g : Games) (events : List Event) (old new : List Answer) (count : ℕ) : Type 0 where
  pub many : count ≡ min (length events) (length old)
  pub replayed : Replayed g (take count events) (map told (take count new))
  pub rest : drop count new ≡ drop count old
  pub size : length new ≡ length old

-- a reader of the promises needs none of the rest: what the steps of a cell do to its copies

-- a wait that stops at the largest number
abbrev pub counted : Bool → ℕ → ℕ
counted goal wait = cond goal 0 (min (wait + 1) (2 ^ 32 - 1))

-- machines have moved: states, phase under the signals shown before, waits; the offer in force stays
pub record Advanced (to : Sides ℕ) (goals : Sides Bool) (x y : Copies) : Type 0 where
  pub same : copied y ≡ copied x
  pub at : y.standing ≡ record {
    states = to;
    phase = phase_after (Some (copied x)) x.standing;
    waits = both (counted goals.first x.standing.waits.first) (counted goals.second x.standing.waits.second);
    bounds = x.standing.bounds;
  }

-- an offer was copied, with its bounds
pub record Taken (o : Offering) (b : Sides ℕ) (x y : Copies) : Type 0 where
  pub same : copied y ≡ o
  pub at : y.standing ≡ taken b x.standing
