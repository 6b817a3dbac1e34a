-- From what a call does to the log that its cell shows, what it tells of every list of calls.
use Rattle.std.proofs.Common.{◌≡◌, ℕ, ◌+◌, ◌^◌, ◌<◌, Bool, true, false, List, [], ◌∷◌, ◌++◌, Some, None, Ok, Err, sym, refl, ap, subst, ◌∙◌, arith}
use Rattle.reading.specs.declared.sides.Sides.{Sides}
use Rattle.games.specs.Machines.{Model, Marks, goal_in}
use Rattle.cell.specs.declared.calls.Question.{Question}
use Rattle.cell.specs.declared.copies.Copies.{Copies}
use Rattle.cell.specs.declared.copies.Mode.{Mode}
use Rattle.cell.specs.declared.copies.Mode.TheVariants as mode
use Rattle.cell.specs.declared.calls.Offer.{Offer}
use Rattle.cell.specs.declared.calls.OwnedOffer.{OwnedOffer}
use Rattle.cell.specs.declared.calls.Call.{Call}
use Rattle.cell.specs.declared.calls.Call.TheVariants as call
use Rattle.cell.specs.declared.cell.Cell.{Cell}
use Rattle.cell.specs.declared.faults.CellFault.TheVariants.{Idle}
use Rattle.cell.specs.Faults.{Refusal, numbers}
use Rattle.cell.specs.Logs.{Games, Log, Event, Told, reported, offered, asked, to_report, Offering, first, run, answers, after, unless_err, report_fault, running_fault, moved, waited, signals, signals_in}
use Rattle.cell.specs.Running.{Good, BothRun}
use Rattle.cell.specs.Cells.{shown, seen, copied, counted, Advanced, games, both_mean, offering, owned, event, Heard, Answered}
use Rattle.cell.proofs.AnswerLaws.{answer_moved, answer_refused}
use Rattle.cell.proofs.LogLaws.{good_moved}
use Rattle.cell.proofs.GoalLaws.{nears}
use Rattle.cell.proofs.AcceptedLaws.{law_by}

pub run_more : (g : Games) (es : List Event) (e : Event) (l : Log) → run g (es ++ e ∷ []) l ≡ after g (run g es l) e
unfolding run
run_more g [] e l = refl
run_more g (x ∷ es) e l = run_more g es e (after g l x)

module _ {A B : Type 0} (m0 : A → Model) (k0 : A → Marks) (m1 : B → Model) (k1 : B → Marks) where
  abbrev mean : Cell A B → Games
  mean c = games m0 k0 m1 k1 c

  same_games : (x y : Cell A B) → y.first ≡ x.first → y.second ≡ x.second → mean x ≡ mean y
  same_games x y p q = ap (λ (a : A). both_mean m0 k0 m1 k1 a x.second) (sym p) ∙ ap (λ (b : B). both_mean m0 k0 m1 k1 y.first b) (sym q)

  pub heard : (x y : Cell A B) (e : Event) (r : Told) → y.first ≡ x.first → y.second ≡ x.second →
      r ≡ answers (mean x) (seen x) e →
      (Good (mean x) (seen x) → (seen y ≡ after (mean x) (seen x) e) × Good (mean x) (after (mean x) (seen x) e)) →
      Heard m0 k0 m1 k1 x e r y
  heard x y e r p q a h = record {
    first_game = p;
    second_game = q;
    by_shown = a;
    answered = λ events t. a ∙ ap (λ l. answers (mean x) l e) t.same;
    tells = λ events t.
        let k = h t.good in
        record {
          same = subst (λ (b : Games). seen y ≡ run b (events ++ e ∷ []) (first b)) (same_games x y p q)
              (k.0 ∙ ap (λ l. after (mean x) l e) t.same ∙ sym (run_more (mean x) events e (first (mean x))));
          good = subst (λ (b : Games). Good b (seen y)) (same_games x y p q) (subst (Good (mean x)) (sym k.0) k.1);
        };
    law = λ events t. law_by (mean x) (events ++ e ∷ []) (subst (Good (mean x)) (ap (λ l. after (mean x) l e) t.same ∙ sym (run_more (mean x) events e (first (mean x)))) (h t.good).1);
    nears = λ events t on. nears (mean x) (seen x) e t.good on;
  }

  pub question_heard : (x : Cell A B) (q : Question) (r : Told) → Answered m0 k0 m1 k1 x q r → Heard m0 k0 m1 k1 x (asked q) r x
  question_heard x q r t = heard x x (asked q) r refl refl t.by_shown (λ g. (refl, g))

  -- a report that is refused
  pub report_refused : (x : Cell A B) (to : Sides ℕ) (f : Refusal) → report_fault (mean x) (seen x) to ≡ Some f → Heard m0 k0 m1 k1 x (reported to) (to_report (Err f)) x
  report_refused x to f e =
      let a = answer_refused (mean x) (seen x) to f e in
      let s : after (mean x) (seen x) (reported to) ≡ seen x = ap (λ r. unless_err r (moved (mean x) to (seen x)) (seen x)) a in
      heard x x (reported to) (to_report (Err f)) refl refl (ap to_report (sym a)) (λ h. (sym s, subst (Good (mean x)) (sym s) h))

  -- a report that is accepted
  pub report_moved : (x y : Cell A B) (to s : Sides ℕ) → y.first ≡ x.first → y.second ≡ x.second → report_fault (mean x) (seen x) to ≡ None →
      s ≡ signals (moved (mean x) to (seen x)) → (Good (mean x) (seen x) → seen y ≡ moved (mean x) to (seen x)) → Heard m0 k0 m1 k1 x (reported to) (to_report (Ok s)) y
  report_moved x y to s p q e shows h =
      let a = answer_moved (mean x) (seen x) to e in
      let m : after (mean x) (seen x) (reported to) ≡ moved (mean x) to (seen x) = ap (λ r. unless_err r (moved (mean x) to (seen x)) (seen x)) a in
      heard x y (reported to) (to_report (Ok s)) p q (ap (λ r. to_report (Ok r)) shows ∙ ap to_report (sym a))
      (λ g. (h g ∙ sym m, subst (Good (mean x)) (sym m) (good_moved (mean x) (seen x) to g e)))

-- a count is exact while the wait is small
exact : (goal : Bool) (w : ℕ) → w + 1 < 2 ^ 32 → counted goal w ≡ waited goal w
exact true w h = refl
exact false w h = omega arith

-- the copies after an accepted report show the log's next
pub advanced : (g : Games) (x y : Copies) (to : Sides ℕ) (goals : Sides Bool) → goals.first ≡ goal_in g.machines.first g.marks.first to.first → goals.second ≡ goal_in g.machines.second g.marks.second to.second →
    Advanced to goals x y → BothRun g (copied x) x.standing → shown mode.Running y ≡ moved g to (shown mode.Running x)
unfolding moved
advanced g x y to goals i0 i1 h r =
    let e0 : counted goals.first x.standing.waits.first ≡ waited goals.first x.standing.waits.first = exact goals.first x.standing.waits.first (omega (arith, r.first.due, r.first.small)) in
    let e1 : counted goals.second x.standing.waits.second ≡ waited goals.second x.standing.waits.second = exact goals.second x.standing.waits.second (omega (arith, r.second.due, r.second.small)) in
    cc (h.same, h.at)

module _ {A B : Type 0} (m0 : A → Model) (k0 : A → Marks) (m1 : B → Model) (k1 : B → Marks) (x : Cell A B) (to : Sides ℕ) where
  pub idle_refused : x.mode ≡ mode.Idle → Heard m0 k0 m1 k1 x (reported to) (to_report (Err (numbers Idle))) x
  idle_refused off =
      report_refused m0 k0 m1 k1 x to (numbers Idle) (subst (λ (m : Mode). report_fault (mean m0 k0 m1 k1 x) (shown m x.copies) to ≡ Some (numbers Idle)) (sym off) refl)

module _ {A B : Type 0} (m0 : A → Model) (k0 : A → Marks) (m1 : B → Model) (k1 : B → Marks) (x : Cell A B) (to : Sides ℕ) (on : x.mode ≡ mode.Running) where
  pub running_refused : (f : Refusal) → running_fault (mean m0 k0 m1 k1 x) (shown mode.Running x.copies) to ≡ Some f → Heard m0 k0 m1 k1 x (reported to) (to_report (Err f)) x
  running_refused f e =
      report_refused m0 k0 m1 k1 x to f (subst (λ (m : Mode). report_fault (mean m0 k0 m1 k1 x) (shown m x.copies) to ≡ Some f) (sym on) e)

  pub running_moved : (y : Copies) (goals : Sides Bool) (s : Sides ℕ) → running_fault (mean m0 k0 m1 k1 x) (shown mode.Running x.copies) to ≡ None →
      goals.first ≡ goal_in (m0 x.first) (k0 x.first) to.first → goals.second ≡ goal_in (m1 x.second) (k1 x.second) to.second →
      Advanced to goals x.copies y → s ≡ signals_in (Some (copied y)) y.standing →
      Heard m0 k0 m1 k1 x (reported to) (to_report (Ok s)) (record { mode = x.mode; copies = y; first = x.first; second = x.second })
  unfolding moved
  running_moved y goals s e i0 i1 h shows =
      let g = mean m0 k0 m1 k1 x in
      let next : Cell A B = record { mode = x.mode; copies = y; first = x.first; second = x.second } in
      let none = subst (λ (m : Mode). report_fault g (shown m x.copies) to ≡ None) (sym on) e in
      let shows_next : s ≡ signals (moved g to (shown mode.Running x.copies)) =
      shows ∙ ap (λ o. signals_in (Some o) y.standing) h.same ∙ ap (λ a. signals_in (Some (copied x.copies)) a) h.at in
      report_moved m0 k0 m1 k1 x next to s refl refl none
      (subst (λ (m : Mode). s ≡ signals (moved g to (shown m x.copies))) (sym on) shows_next)
      (subst (λ (m : Mode). Good g (shown m x.copies) → shown m y ≡ moved g to (shown m x.copies)) (sym on) (advanced g x.copies y to goals i0 i1 h))

-- a call that is kept, by what it is
module _ {A B : Type 0} {m0 : A → Model} {k0 : A → Marks} {m1 : B → Model} {k1 : B → Marks} {x : Cell A B} {r : Told} (k : Call) where
  pub offer_heard : {y : Cell A B} (o : OwnedOffer) (v : Offer) → k ≡ call.Offer o → offering v ≡ owned o → Heard m0 k0 m1 k1 x (offered (offering v)) r y → Heard m0 k0 m1 k1 x (event k) r y
  offer_heard {y} o v e h t =
      subst (λ (c : Call). Heard m0 k0 m1 k1 x (event c) r y) (sym e) (subst (λ (z : Offering). Heard m0 k0 m1 k1 x (offered z) r y) h t)

  pub ask_heard : (q : Question) → k ≡ call.Ask q → Answered m0 k0 m1 k1 x q r → Heard m0 k0 m1 k1 x (event k) r x
  ask_heard q e t = subst (λ (c : Call). Heard m0 k0 m1 k1 x (event c) r x) (sym e) (question_heard m0 k0 m1 k1 x q r t)
