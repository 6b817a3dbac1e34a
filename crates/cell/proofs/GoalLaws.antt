-- A rank comes true: unless a machine is at a goal, each tick lowers its rank, and no other call raises it.
use Rattle.std.proofs.Common.{◌≡◌, ℕ, zero, suc, ◌+◌, ◌<◌, ◌≤◌, Bool, true, false, List, [], ◌∷◌, take, drop, Some, None, Ok, Err, Option, Result, is_some, refl, arith}
use Rattle.reading.specs.declared.sides.Sides.{Sides}
use Rattle.reading.proofs.FirstLaws.{not_true, none_left, none_right}
use Rattle.cell.specs.declared.copies.Standing.{Standing}
use Rattle.cell.specs.declared.calls.Question.{Question}
use Rattle.cell.specs.declared.calls.Question.TheVariants.{States, Phase, Waits, Signals, Ranks}
use Rattle.cell.specs.Faults.{Refusal}
use Rattle.cell.specs.Logs.{Games, Log, Event, offered, reported, asked, to_offer, to_report, Offering, own, first, ranks, record_fault, change_fault, changes_fault, offer_fault, bounds_of, in_force, moved, answers_offer, answers_report, answers_question, after, unless_err, run, all_answers}
use Rattle.cell.specs.Law.{BothMove, Accepted, at_goal, tick, ticks, Nears, InTime}
use Rattle.cell.specs.Running.{BothRun, Good}
use Rattle.cell.proofs.AnswerLaws.{accepted, changes, moves_from_accepted}
use Rattle.cell.proofs.LogLaws.{log, choice_serves, shown_relied}

-- under the offer in force, at the ranks of both sides
module _ (g : Games) (o : Offering) (a : Standing) (h : BothRun g o a) (to : Sides ℕ) (can : BothMove g (log a (Some o)) to) where
  first_falls : at_goal g (log a (Some o)) 0 ≡ false → own 0 (ranks (moved g to (log a (Some o)))) < own 0 (ranks (log a (Some o)))
  unfolding moved
  first_falls e = (choice_serves g o a h 0 h.first).falls _ to.first (shown_relied g o a h 1 h.second) can.0 e

  second_falls : at_goal g (log a (Some o)) 1 ≡ false → own 1 (ranks (moved g to (log a (Some o)))) < own 1 (ranks (log a (Some o)))
  unfolding moved
  second_falls e = (choice_serves g o a h 1 h.second).falls _ to.second (shown_relied g o a h 0 h.first) can.1 e

-- what a report and an offer make of a rank
report_nearer : (g : Games) (l : Log) (to : Sides ℕ) (side : ℕ) (r : Result (Sides ℕ) Refusal) → (Accepted r → own side (ranks (moved g to l)) < own side (ranks l)) →
    own side (ranks (unless_err r (moved g to l) l)) + tick (to_report r) ≤ own side (ranks l)
report_nearer g l to side (Ok x) h = omega (arith, h (x, refl))
report_nearer g l to side (Err f) h = omega arith

offer_nearer : (g : Games) (l : Log) (o : Offering) (side : ℕ) (r : Result (Sides ℕ) Refusal) → (Accepted r → own side (ranks (in_force o l)) ≤ own side (ranks l)) →
    own side (ranks (unless_err r (in_force o l) l)) + tick (to_offer r) ≤ own side (ranks l)
offer_nearer g l o side (Ok x) h = omega (arith, h (x, refl))
offer_nearer g l o side (Err f) h = omega arith

no_tick : (l : Log) (q : Question) → tick (answers_question l q) ≡ 0
no_tick l States = refl
no_tick l Phase = refl
no_tick l Waits = refl
no_tick l Signals = refl
no_tick l Ranks = refl

module _ (g : Games) (was : Offering) (a : Standing) where
  abbrev running : Log
  running = log a (Some was)

  -- an accepted offer raises no rank
  no_change_fault : (o : Offering) → Accepted (answers_offer g running o) → changes_fault (Some was) a o ≡ None
  unfolding answers_offer
  no_change_fault o (x, e) = none_right (record_fault g o 1) _ (none_right (record_fault g o 0) _ (accepted (offer_fault g running o) (bounds_of o) x e).0)

  first_stays : (o : Offering) → Accepted (answers_offer g running o) → own 0 (ranks (in_force o running)) ≤ own 0 (ranks running)
  first_stays o h = (changes a (ranks running) o 0 (none_left _ (change_fault a (ranks running) o 1) (no_change_fault o h))).1

  second_stays : (o : Offering) → Accepted (answers_offer g running o) → own 1 (ranks (in_force o running)) ≤ own 1 (ranks running)
  second_stays o h = (changes a (ranks running) o 1 (none_right (change_fault a (ranks running) o 0) _ (no_change_fault o h))).1

  module _ (h : BothRun g was a) where
    first_nearer : (e : Event) → Nears g running e 0
    first_nearer (offered o) n = offer_nearer g running o 0 (answers_offer g running o) (first_stays o)
    first_nearer (reported to) n = report_nearer g running to 0 (answers_report g running to) (λ r. first_falls g was a h to (moves_from_accepted g running to r) n)
    first_nearer (asked q) n = omega (arith, no_tick running q)

    second_nearer : (e : Event) → Nears g running e 1
    second_nearer (offered o) n = offer_nearer g running o 1 (answers_offer g running o) (second_stays o)
    second_nearer (reported to) n = report_nearer g running to 1 (answers_report g running to) (λ r. second_falls g was a h to (moves_from_accepted g running to r) n)
    second_nearer (asked q) n = omega (arith, no_tick running q)

-- a machine of rank 0 is at a goal
module _ (g : Games) (o : Offering) (a : Standing) (h : BothRun g o a) where
  first_there : own 0 (ranks (log a (Some o))) ≡ 0 → at_goal g (log a (Some o)) 0 ≡ true
  first_there e = h.first.controller.rival.goals_at_zero _ _ h.first.here e

  second_there : own 1 (ranks (log a (Some o))) ≡ 0 → at_goal g (log a (Some o)) 1 ≡ true
  second_there e = h.second.controller.rival.goals_at_zero _ _ h.second.here e

-- from the first accepted offer on there is one in force
offer_on : (r : Result (Sides ℕ) Refusal) (o : Offering) (l : Log) → is_some l.force ≡ true → is_some (unless_err r (in_force o l) l).force ≡ true
offer_on (Ok x) o l on = refl
offer_on (Err f) o l on = on

report_on : (g : Games) (r : Result (Sides ℕ) Refusal) (to : Sides ℕ) (l : Log) → is_some l.force ≡ true → is_some (unless_err r (moved g to l) l).force ≡ true
unfolding moved
report_on g (Ok x) to l on = on
report_on g (Err f) to l on = on

stays_on : (g : Games) (l : Log) (e : Event) → is_some l.force ≡ true → is_some (after g l e).force ≡ true
stays_on g l (offered o) on = offer_on (answers_offer g l o) o l on
stays_on g l (reported to) on = report_on g (answers_report g l to) to l on
stays_on g l (asked q) on = on

-- what of every log with an offer in force comes nearer with each call, and is there at rank 0, is there in time
module _ (g : Games) (side : ℕ)
    (nearer : (a : Standing) (o : Offering) → BothRun g o a → (e : Event) → Nears g (log a (Some o)) e side)
    (there : (a : Standing) (o : Offering) → BothRun g o a → own side (ranks (log a (Some o))) ≡ 0 → at_goal g (log a (Some o)) side ≡ true) where
  nearer_in : (a : Standing) (f : Option Offering) → Good g (log a f) → is_some f ≡ true → (e : Event) → Nears g (log a f) e side
  nearer_in a None h on = absurd (not_true on)
  nearer_in a (Some o) h on = nearer a o h

  there_in : (a : Standing) (f : Option Offering) → Good g (log a f) → is_some f ≡ true → own side (ranks (log a f)) ≡ 0 → at_goal g (log a f) side ≡ true
  there_in a None h on = absurd (not_true on)
  there_in a (Some o) h on = there a o h

  -- some calls lead to a goal
  abbrev Leads : List Event → Log → Type 0
  Leads later l = (n : ℕ) × (at_goal g (run g (take n later) l) side ≡ true)

  first_call : (goal : Bool) (e : Event) (es : List Event) (l : Log) → at_goal g l side ≡ goal → Good g l → is_some l.force ≡ true → own side (ranks l) ≤ ticks (all_answers g (e ∷ es) l) →
      (is_some (after g l e).force ≡ true → own side (ranks (after g l e)) ≤ ticks (all_answers g es (after g l e)) → Leads es (after g l e)) → Leads (e ∷ es) l
  unfolding run all_answers ticks
  first_call true e es l at good on low rest = (0, at)
  first_call false e es l at good on low rest =
      let next = rest (stays_on g l e on) (omega (arith, low, nearer_in l.at l.force good on e at)) in
      (suc next.0, next.1)

  reached : (later : List Event) (l : Log) → ((k : ℕ) → Good g (run g (take k later) l)) → is_some l.force ≡ true → own side (ranks l) ≤ ticks (all_answers g later l) → Leads later l
  unfolding run all_answers ticks
  reached [] l good on low = (0, there_in l.at l.force (good 0) on (omega (arith, low)))
  reached (e ∷ es) l good on low = first_call (at_goal g l side) e es l refl (good 0) on low (reached es (after g l e) (λ k. good (suc k)))

-- what holds after every first part of some calls holds so from any of them on
later : (g : Games) (n : ℕ) (events : List Event) (l : Log) → ((k : ℕ) → Good g (run g (take k events) l)) → (k : ℕ) → Good g (run g (take k (drop n events)) (run g (take n events) l))
unfolding run
later g zero events l good = good
later g (suc n) [] l good = good
later g (suc n) (e ∷ es) l good = later g n es (after g l e) (λ k. good (suc k))

pub nears : (g : Games) (l : Log) (e : Event) → Good g l → is_some l.force ≡ true → Nears g l e 0 × Nears g l e 1
nears g l e good on = (
  nearer_in g 0 (λ a o h. first_nearer g o a h) (λ a o h. first_there g o a h) l.at l.force good on e,
  nearer_in g 1 (λ a o h. second_nearer g o a h) (λ a o h. second_there g o a h) l.at l.force good on e,
)

-- and so after every first part of some first part
cut : (g : Games) (m : ℕ) (events : List Event) (l : Log) → ((k : ℕ) → Good g (run g (take k events) l)) → (k : ℕ) → Good g (run g (take k (take m events)) l)
unfolding run
cut g zero events l good zero = good 0
cut g zero events l good (suc k) = good 0
cut g (suc m) [] l good k = good k
cut g (suc m) (e ∷ es) l good zero = good 0
cut g (suc m) (e ∷ es) l good (suc k) = cut g m es (after g l e) (λ j. good (suc j)) k

pub in_time : (g : Games) (events : List Event) → ((k : ℕ) → Good g (run g (take k events) (first g))) → (n m : ℕ) → InTime g (take n events) (take m (drop n events)) 0 × InTime g (take n events) (take m (drop n events)) 1
in_time g events good n m =
    let rest = cut g m (drop n events) (run g (take n events) (first g)) (later g n events (first g) good) in (
      reached g 0 (λ a o h. first_nearer g o a h) (λ a o h. first_there g o a h) (take m (drop n events)) (run g (take n events) (first g)) rest,
      reached g 1 (λ a o h. second_nearer g o a h) (λ a o h. second_there g o a h) (take m (drop n events)) (run g (take n events) (first g)) rest,
    )
