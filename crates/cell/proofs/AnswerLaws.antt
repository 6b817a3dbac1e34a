-- What an answer tells of the refusals before it.
use Rattle.std.proofs.Common.{◌≡◌, ℕ, ◌≤◌, true, not, ◌==◌, nat_le, Some, None, Ok, Err, Option, refl, ap, arith}
use Rattle.std.proofs.lemmas.Bool.{leb-true, le-leb, ltb-true, not_from_false, ne_eqb, and_parts}
use Rattle.reading.specs.Firsts.{unless}
use Rattle.reading.specs.Records.{parts_in, rank_at}
use Rattle.reading.specs.declared.sides.Sides.{Sides}
use Rattle.reading.proofs.FirstLaws.{of_none, none_left, none_right, unless_none, none_unless}
use Rattle.games.specs.Sets.{has}
use Rattle.checking.specs.Controllers.{plan_in, Kept}
use Rattle.cell.specs.declared.copies.Standing.{Standing}
use Rattle.cell.specs.declared.faults.CellFault.TheVariants.{NotKept, RankRises}
use Rattle.cell.specs.Faults.{Refusal, numbers}
use Rattle.checking.specs.Checks.{keeps}
use Rattle.cell.specs.Logs.{Games, Log, Offering, own, unless_refused, change_fault, report_fault, running_fault, choice_fault, move_fault, signals, ranks, moved, answers_report}
use Rattle.cell.specs.Law.{GoesOver, BothMove, Accepted}
use Rattle.cell.proofs.RunLaws.{kept_from, kept_to}

module _ {A : Type 0} where
  pub accepted : (o : Option Refusal) (x y : A) → unless_refused o x ≡ Ok y → (o ≡ None) × (x ≡ y)
  accepted (Some f) x y e = let z : ◌≡◌ {A = ℕ} 0 1 = cc in absurd (omega arith)
  accepted None x y e = (refl, cc)

  pub accepts : (o : Option Refusal) (x : A) → o ≡ None → unless_refused o x ≡ Ok x
  accepts o x e = ap (λ f. unless_refused f x) e

  pub refuses : (o : Option Refusal) (x : A) (f : Refusal) → o ≡ Some f → unless_refused o x ≡ Err f
  refuses o x f e = ap (λ f. unless_refused f x) e

-- a side whose change is not refused keeps its state in the new record, at no higher rank
pub changes : (a : Standing) (ranks : Sides ℕ) (o : Offering) (side : ℕ) → change_fault a ranks o side ≡ None →
    Kept (plan_in (own side o.records)) (own side a.states) 0 × (rank_at (parts_in (own side o.records)) (own side a.states) 0 ≤ own side ranks)
changes a ranks o side e =
    let is_kept = keeps (plan_in (own side o.records)) (own side a.states) 0 in
    let falls = nat_le (rank_at (parts_in (own side o.records)) (own side a.states) 0) (own side ranks) in
    let kept = unless is_kept (numbers (NotKept side)) in
    let fallen = unless falls (numbers (RankRises side)) in (
      kept_from (plan_in (own side o.records)) (own side a.states) 0 (none_unless is_kept (numbers (NotKept side)) (none_left kept fallen e)),
      leb-true _ _ (none_unless falls (numbers (RankRises side)) (none_right kept fallen e)),
    )

pub goes_over : (l : Log) (o : Offering) (side : ℕ) → change_fault l.at (ranks l) o side ≡ None → GoesOver l o side
goes_over l o side e = let h = changes l.at (ranks l) o side e in record { kept = h.0; falls = h.1 }

pub no_change_fault : (l : Log) (o : Offering) (side : ℕ) → GoesOver l o side → change_fault l.at (ranks l) o side ≡ None
no_change_fault l o side h =
    of_none _ _ (unless_none _ (numbers (NotKept side)) (kept_to (plan_in (own side o.records)) (own side l.at.states) 0 h.kept)) (unless_none _ (numbers (RankRises side)) (le-leb _ _ h.falls))

-- a promised signal is none of the absent ones
pub none_absent : (w set p x : ℕ) → w ≤ 255 → has w set p x ≡ true → not (x == 255) ≡ true
none_absent w set p x small h = not_from_false _ (ne_eqb x 255 (λ e. omega (arith, ltb-true x w (and_parts _ _ h).0)))

module _ (g : Games) (l : Log) (to : Sides ℕ) where
  moves_from : running_fault g l to ≡ None → BothMove g l to
  moves_from e =
      let m = none_right (choice_fault l 1) _ (none_right (choice_fault l 0) _ e) in
      (none_unless _ _ (none_left (move_fault g l to 0) _ m), none_unless _ _ (none_right (move_fault g l to 0) _ m))

  pub moves_from_accepted : Accepted (answers_report g l to) → BothMove g l to
  unfolding answers_report
  moves_from_accepted (x, e) = moves_from (none_right _ _ (accepted (report_fault g l to) (signals (moved g to l)) x e).0)

  pub no_fault : not (own 0 (signals l) == 255) ≡ true → not (own 1 (signals l) == 255) ≡ true → BothMove g l to → running_fault g l to ≡ None
  no_fault h0 h1 m =
      of_none _ _ (unless_none _ _ h0) (of_none _ _ (unless_none _ _ h1) (of_none _ _ (unless_none _ _ m.0) (unless_none _ _ m.1)))

  pub answer_moved : report_fault g l to ≡ None → answers_report g l to ≡ Ok (signals (moved g to l))
  unfolding answers_report
  answer_moved e = accepts (report_fault g l to) (signals (moved g to l)) e

  pub answer_refused : (f : Refusal) → report_fault g l to ≡ Some f → answers_report g l to ≡ Err f
  unfolding answers_report
  answer_refused f e = refuses (report_fault g l to) (signals (moved g to l)) f e
