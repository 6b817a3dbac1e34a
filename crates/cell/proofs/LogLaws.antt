-- What every log of a cell keeps, and that the law follows.
use Rattle.std.proofs.Common.{◌≡◌, ℕ, zero, suc, ◌≤◌, ◌<◌, max, ◌==◌, Bool, true, false, not, Some, None, Option, sym, refl, subst, arith}
use Rattle.reading.specs.Marks.{implies}
use Rattle.reading.specs.Sides.{pick}
use Rattle.reading.specs.Records.{parts_in, choice_at, rank_at}
use Rattle.reading.specs.declared.sides.Sides.{Sides}
use Rattle.reading.proofs.FirstLaws.{not_true, not_some, none_left, none_right}
use Rattle.games.specs.declared.deal.Deal.{Deal}
use Rattle.games.specs.Sets.{width}
use Rattle.checking.specs.Arenas.{promised, relied}
use Rattle.checking.specs.Controllers.{plan_in, Serves}
use Rattle.cell.specs.declared.copies.Standing.{Standing}
use Rattle.cell.specs.Logs.{Games, Log, Offering, own, partner, signals, signals_in, ranks_in, moved, taken, changes_fault, change_fault, report_fault}
use Rattle.cell.specs.Law.{Guarantee, BothMove, Holds, Lawful}
use Rattle.cell.specs.Running.{plays, Runs, RunsAt, BothRun, Rests, Good}
use Rattle.cell.specs.Cells.{Passed}
use Rattle.cell.proofs.RunLaws.{serves, patient, moves as runs_on, takes, begins}
use Rattle.cell.proofs.AnswerLaws.{changes, none_absent, moves_from_accepted, no_fault, answer_moved}

abbrev pub log : Standing → Option Offering → Log
log a f = record { at = a; force = f }

implied : (x y : Bool) → implies x y ≡ true → x ≡ true → y ≡ true
implied true y h e = h
implied false y h e = absurd (not_true e)

-- what a side of a deal promises, its partner relies on
agreed : (d : Deal) (side p x : ℕ) → p < d.sizes.phases → promised d side p x ≡ true → relied d (pick side 1 0) p x ≡ true
agreed d zero p x l e = implied _ _ (d.kept0 p x l) e
agreed d (suc n) p x l e = implied _ _ (d.kept1 p x l) e

-- a side's signal and rank
shows : (o : Offering) (a : Standing) (side : ℕ) → own side (signals_in (Some o) a) ≡ choice_at (parts_in (own side o.records)) (own side a.states) a.phase
shows o a zero = refl
shows o a (suc n) = refl

ranked : (o : Offering) (a : Standing) (side : ℕ) → own side (ranks_in (Some o) a) ≡ rank_at (parts_in (own side o.records)) (own side a.states) a.phase
ranked o a zero = refl
ranked o a (suc n) = refl

module _ (g : Games) (o : Offering) (a : Standing) (h : BothRun g o a) where
  -- a side's choice serves at its position
  pub choice_serves : (side : ℕ) → RunsAt g o a side → Serves (plays g o side) (plan_in (own side o.records)) (own side a.states) a.phase (choice_at (parts_in (own side o.records)) (own side a.states) a.phase)
  choice_serves side r = serves (plays g o side) (plan_in (own side o.records)) _ _ _ _ r

  -- what a side shows is promised by it and relied on by its partner
  shown_promised : (side : ℕ) → RunsAt g o a side → promised o.deal side a.phase (own side (signals_in (Some o) a)) ≡ true
  shown_promised side r = rw (shows o a side) ((choice_serves side r).promised)

  pub shown_relied : (side : ℕ) → RunsAt g o a side → relied o.deal (pick side 1 0) a.phase (own side (signals_in (Some o) a)) ≡ true
  shown_relied side r =
      let low : a.phase < o.deal.sizes.phases = subst (λ (n : ℕ). a.phase < n) h.same (r.controller.rival.inside _ _ r.here).1 in
      agreed o.deal side a.phase _ low (shown_promised side r)

  guarantee : (side : ℕ) → RunsAt g o a side → relied o.deal side a.phase (partner side (signals_in (Some o) a)) ≡ true → Guarantee g (log a (Some o)) o side
  guarantee side r e =
      let v = choice_serves side r in
      let t = v.goes _ e in
      record {
        safe = r.controller.rival.safe _ _ r.here;
        promised = shown_promised side r;
        relied = shown_relied side r;
        due = rw (ranked o a side) r.due;
        patient = patient (plays g o side) (plan_in (own side o.records)) _ _ _ _ r;
        goes = (t.0, subst (λ (x : ℕ). (own side g.machines).move (own side a.states) x (partner side (signals_in (Some o) a)) t.0 ≡ true) (sym (shows o a side)) t.1);
      }

  runs_moved : (to : Sides ℕ) → BothMove g (log a (Some o)) to → BothRun g o (moved g to (log a (Some o))).at
  unfolding moved
  runs_moved to can = record {
    first = runs_on (plays g o 0) (plan_in o.records.first) a.states.first a.phase a.waits.first a.bounds.first _ to.first h.first (shown_relied 1 h.second) can.0;
    second = runs_on (plays g o 1) (plan_in o.records.second) a.states.second a.phase a.waits.second a.bounds.second _ to.second h.second (shown_relied 0 h.first) can.1;
    same = h.same;
  }

  absent : (side : ℕ) → RunsAt g o a side → not (own side (signals_in (Some o) a) == 255) ≡ true
  absent side r = none_absent width (pick side o.deal.terms.first.promise o.deal.terms.second.promise) a.phase _ (omega arith) (shown_promised side r)

  holds_running : Holds g (log a (Some o)) o
  holds_running = record {
    first = guarantee 0 h.first (shown_relied 1 h.second);
    second = guarantee 1 h.second (shown_relied 0 h.first);
    only_moves = λ to. moves_from_accepted g (log a (Some o)) to;
    all_moves = λ to can. (signals (moved g to (log a (Some o))), answer_moved g (log a (Some o)) to (no_fault g (log a (Some o)) to (absent 0 h.first) (absent 1 h.second) can));
  }

-- the law follows from what every log keeps
pub lawful : (g : Games) (l : Log) → Good g l → Lawful g l
lawful g l h o e = subst (λ (f : Option Offering). Good g (log l.at f) → Holds g (log l.at f) o) (sym e) (holds_running g o l.at) h

-- an accepted report
good_moved_in : (g : Games) (a : Standing) (f : Option Offering) (to : Sides ℕ) → Good g (log a f) → report_fault g (log a f) to ≡ None → Good g (moved g to (log a f))
unfolding moved
good_moved_in g a None to h e = absurd (not_some e)
good_moved_in g a (Some o) to h e = runs_moved g o a h to (moves_from_accepted g (log a (Some o)) to (_, answer_moved g (log a (Some o)) to e))

pub good_moved : (g : Games) (l : Log) (to : Sides ℕ) → Good g l → report_fault g l to ≡ None → Good g (moved g to l)
good_moved g l to = good_moved_in g l.at l.force to

-- an accepted offer
side_begins : (g : Games) (a : Standing) (o : Offering) (side b : ℕ) → Rests g a side → Passed (own side g.machines) (own side g.marks) o side b →
    Runs (plays g o side) (plan_in (own side o.records)) (own side a.states) 0 (own side a.waits) (max (own side a.bounds) b)
side_begins g a o side b r p = begins (plays g o side) (plan_in (own side o.records)) _ _ _ b p.ranked.controller p.largest r.start r.fresh r.none

side_takes : (g : Games) (a : Standing) (was o : Offering) (side b : ℕ) → RunsAt g was a side → Passed (own side g.machines) (own side g.marks) o side b → change_fault a (ranks_in (Some was) a) o side ≡ None →
    Runs (plays g o side) (plan_in (own side o.records)) (own side a.states) 0 (own side a.waits) (max (own side a.bounds) b)
side_takes g a was o side b r p e =
    let c = changes a (ranks_in (Some was) a) o side e in
    takes (plays g o side) (plan_in (own side o.records)) _ _ _ b _ p.ranked.controller p.largest c.0 (subst (λ (n : ℕ). rank_at (parts_in (own side o.records)) (own side a.states) 0 ≤ n) (ranked was a side) c.1) r.due r.fresh r.small

pub good_taken : (g : Games) (a : Standing) (f : Option Offering) (o : Offering) (b0 b1 : ℕ) → Good g (log a f) →
    Passed (own 0 g.machines) (own 0 g.marks) o 0 b0 → Passed (own 1 g.machines) (own 1 g.marks) o 1 b1 →
    changes_fault f a o ≡ None → BothRun g o (taken (record { first = b0; second = b1 }) a)
good_taken g a None o b0 b1 h p0 p1 e = record {
  first = side_begins g a o 0 b0 h.0 p0;
  second = side_begins g a o 1 b1 h.1 p1;
  same = p0.ranked.suits.phases;
}
good_taken g a (Some was) o b0 b1 h p0 p1 e = record {
  first = side_takes g a was o 0 b0 h.first p0 (none_left _ _ e);
  second = side_takes g a was o 1 b1 h.second p1 (none_right _ _ e);
  same = p0.ranked.suits.phases;
}
