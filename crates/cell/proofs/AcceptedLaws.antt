-- The offer in force and the largest bounds, told from calls and answers.
use Rattle.std.proofs.Common.{◌≡◌, ℕ, List, [], ◌∷◌, Some, None, Ok, Err, Option, Result, refl, ap, ◌∙◌}
use Rattle.reading.specs.declared.sides.Sides.{Sides}
use Rattle.cell.specs.declared.calls.Question.TheVariants.{States, Phase, Waits, Signals, Ranks}
use Rattle.cell.specs.Faults.{Refusal}
use Rattle.cell.specs.Logs.{Games, Log, Event, offered, reported, asked, to_offer, Offering, first, run, answers, after, all_answers, answers_offer, answers_report, offer_fault, bounds_of, unless_refused, unless_err, in_force, moved}
use Rattle.cell.specs.Running.{Good}
use Rattle.cell.proofs.LogLaws.{lawful}
use Rattle.cell.specs.Law.{Law, if_accepted, accepted_by, last_accepted, raised, largest_answered}

offer_force : (r : Result (Sides ℕ) Refusal) (o : Offering) (l : Log) → (unless_err r (in_force o l) l).force ≡ if_accepted (to_offer r) (Some o) l.force
offer_force (Ok b) o l = refl
offer_force (Err f) o l = refl

offer_bounds : (f : Option Refusal) (o : Offering) (l : Log) → (unless_err (unless_refused f (bounds_of o)) (in_force o l) l).at.bounds ≡ raised (to_offer (unless_refused f (bounds_of o))) l.at.bounds
offer_bounds (Some f) o l = refl
offer_bounds None o l = refl

-- what a report leaves as it was
report_keeps : (r : Result (Sides ℕ) Refusal) (g : Games) (to : Sides ℕ) (l : Log) → ((unless_err r (moved g to l) l).force ≡ l.force) × ((unless_err r (moved g to l) l).at.bounds ≡ l.at.bounds)
unfolding moved
report_keeps (Ok b) g to l = (refl, refl)
report_keeps (Err f) g to l = (refl, refl)

force_after : (g : Games) (l : Log) (e : Event) → (after g l e).force ≡ accepted_by e (answers g l e) l.force
force_after g l (offered o) = offer_force (answers_offer g l o) o l
force_after g l (reported to) = (report_keeps (answers_report g l to) g to l).0
force_after g l (asked q) = refl

bounds_after : (g : Games) (l : Log) (e : Event) → (after g l e).at.bounds ≡ raised (answers g l e) l.at.bounds
unfolding answers_offer
bounds_after g l (offered o) = offer_bounds (offer_fault g l o) o l
bounds_after g l (reported to) = (report_keeps (answers_report g l to) g to l).1
bounds_after g l (asked States) = refl
bounds_after g l (asked Phase) = refl
bounds_after g l (asked Waits) = refl
bounds_after g l (asked Signals) = refl
bounds_after g l (asked Ranks) = refl

pub force_run : (g : Games) (es : List Event) (l : Log) → (run g es l).force ≡ last_accepted es (all_answers g es l) l.force
unfolding run all_answers last_accepted
force_run g [] l = refl
force_run g (e ∷ es) l = force_run g es (after g l e) ∙ ap (last_accepted es (all_answers g es (after g l e))) (force_after g l e)

pub bounds_run : (g : Games) (es : List Event) (l : Log) → (run g es l).at.bounds ≡ largest_answered (all_answers g es l) l.at.bounds
unfolding run all_answers largest_answered
bounds_run g [] l = refl
bounds_run g (e ∷ es) l = bounds_run g es (after g l e) ∙ ap (largest_answered (all_answers g es (after g l e))) (bounds_after g l e)

-- the law after some calls, from what their log keeps
pub law_by : (g : Games) (events : List Event) → Good g (run g events (first g)) → Law g events
law_by g events good = record { force = force_run g events (first g); bounds = bounds_run g events (first g); holds = lawful g (run g events (first g)) good }
