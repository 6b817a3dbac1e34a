-- What an offer does to the log that a cell shows.
use Rattle.std.proofs.Common.{◌≡◌, ℕ, zero, suc, ◌≤◌, Bor, length, Some, None, Ok, Err, Option, Result, MatchResult, IfOk, is_ok, true, false, Decides, sym, refl, ap, subst, ◌∙◌, mul-le-mul, arith}
use Rattle.reading.specs.Records.{parts_in, bound_of}
use Rattle.reading.specs.Sides.{both, pick}
use Rattle.reading.specs.declared.sides.Sides.{Sides}
use Rattle.reading.proofs.FirstLaws.{not_some, not_true, none_left, none_right, of_none, of_left, of_right}
use Rattle.games.specs.Machines.{Model, Marks}
use Rattle.checking.specs.declared.faults.CheckFault.{CheckFault}
use Rattle.checking.specs.Controllers.{plan_in, Bound}
use Rattle.checking.specs.Faults.{Refusal as CheckRefusal, numbers as check_numbers, told}
use Rattle.checking.specs.Checks.{answer, check_fault, check_answer, Ranked}
use Rattle.cell.specs.declared.faults.CellFault.{CellFault}
use Rattle.cell.specs.declared.faults.CellFault.TheVariants.{Checking}
use Rattle.cell.specs.declared.copies.Copies.{Copies}
use Rattle.cell.specs.declared.copies.Standing.{Standing}
use Rattle.cell.specs.declared.copies.Mode.{Mode}
use Rattle.cell.specs.declared.copies.Mode.TheVariants as mode
use Rattle.cell.specs.declared.cell.Cell.{Cell}
use Rattle.cell.specs.Faults.{Refusal}
use Rattle.cell.specs.Logs.{Games, Log, Offering, own, offered, to_offer, side_fault, record_fault, taken, changes_fault, change_fault, ranks_in, offer_fault, answers_offer, unless_err, bounds_of, in_force, after}
use Rattle.cell.specs.Law.{Acceptable, GoesOver}
use Rattle.cell.specs.Running.{Good, BothRun}
use Rattle.cell.specs.Cells.{shown, force_in, copied, games, refused, Taken, Heard, Passed}
use Rattle.cell.proofs.AnswerLaws.{accepts, refuses, goes_over, no_change_fault}
use Rattle.cell.proofs.LogLaws.{good_taken}
use Rattle.cell.proofs.CallLaws.{heard}

-- what a check answers, from its first fault
answered : (o : Option CheckRefusal) (b : ℕ) (r : Result ℕ CheckFault) → told r ≡ answer o b → MatchResult r (λ x. (o ≡ None) × (x ≡ b)) (λ f. o ≡ Some (check_numbers f))
answered (Some y) b (Ok x) e = let z : ◌≡◌ {A = ℕ} 0 1 = cc in absurd (omega arith)
answered None b (Ok x) e = (refl, cc)
answered (Some y) b (Err f) e = cc
answered None b (Err f) e = let z : ◌≡◌ {A = ℕ} 0 1 = cc in absurd (omega arith)

-- a side's bytes, of two that are borrowed
pub own_now : {X : Type 0} (side : ℕ) (x y : Bor X) → (pick side x y).now ≡ own side (both x.now y.now)
own_now zero x y = refl
own_now (suc n) x y = refl

module _ (m : Model) (k : Marks) (o : Offering) (side : ℕ) where
  pub side_refused : (r : Result ℕ CheckFault) (s : Result ℕ CellFault) → MatchResult r (λ x. s ≡ Ok x) (λ f. s ≡ Err (Checking f side)) →
      told r ≡ check_answer m k o.table o.deal side (own side o.records) → refused s ≡ side_fault m k o side
  side_refused (Ok x) s cases e = let q = answered (check_fault m k o.table o.deal side (own side o.records)) (bound_of (parts_in (own side o.records))) (Ok x) e in rw (cases, q.0) refl
  side_refused (Err f) s cases e = let q = answered (check_fault m k o.table o.deal side (own side o.records)) (bound_of (parts_in (own side o.records))) (Err f) e in rw (cases, q) refl

  pub side_passed : (r : Result ℕ CheckFault) (s : Result ℕ CellFault) → MatchResult r (λ x. s ≡ Ok x) (λ f. s ≡ Err (Checking f side)) →
      told r ≡ check_answer m k o.table o.deal side (own side o.records) → Decides (is_ok r) (Ranked m k o.table o.deal side (own side o.records)) →
      IfOk r (Bound (plan_in (own side o.records))) → IfOk s (Passed m k o side)
  side_passed (Ok x) s cases e ranked bound =
      let q = answered (check_fault m k o.table o.deal side (own side o.records)) (bound_of (parts_in (own side o.records))) (Ok x) e in
      rw cases (record { ranked = ranked.0 refl; largest = bound; value = q.1 })
  side_passed (Err f) s cases e ranked bound = rw cases tt

  pub side_ranked : (r : Result ℕ CheckFault) (s : Result ℕ CellFault) → MatchResult r (λ x. s ≡ Ok x) (λ f. s ≡ Err (Checking f side)) →
      Decides (is_ok r) (Ranked m k o.table o.deal side (own side o.records)) → Decides (is_ok s) (Ranked m k o.table o.deal side (own side o.records))
  side_ranked (Ok x) s cases ranked = rw cases ranked
  side_ranked (Err f) s cases ranked = rw cases ranked

-- a record that is one of a controller has room in the longest
pub short_enough : (m : Model) (k : Marks) (o : Offering) (side b : ℕ) → Passed m k o side b → length (own side o.records) ≤ 6148
short_enough m k o side b p = omega (arith, p.ranked.lawful.long, mul-le-mul p.ranked.lawful.few_states p.ranked.lawful.few_phases)

module _ {A B : Type 0} (m0 : A → Model) (k0 : A → Marks) (m1 : B → Model) (k1 : B → Marks) (x : Cell A B) (o : Offering) where
  abbrev mean : Games
  mean = games m0 k0 m1 k1 x

  abbrev seen : Log
  seen = shown x.mode x.copies

  abbrev Hears : Result (Sides ℕ) Refusal → Cell A B → Type 0
  Hears r y = Heard m0 k0 m1 k1 x (offered o) (to_offer r) y

  offer_refused : (f : Refusal) → offer_fault mean seen o ≡ Some f → Hears (Err f) x
  unfolding answers_offer
  offer_refused f e =
      let a : answers_offer mean seen o ≡ Err f = refuses (offer_fault mean seen o) (bounds_of o) f e in
      let s : after mean seen (offered o) ≡ seen = ap (λ r. unless_err r (in_force o seen) seen) a in
      heard m0 k0 m1 k1 x x (offered o) (to_offer (Err f)) refl refl (ap to_offer (sym a)) (λ h. (sym s, subst (Good mean) (sym s) h))

  pub first_refused : (f : Refusal) → record_fault mean o 0 ≡ Some f → Hears (Err f) x
  first_refused f e = offer_refused f (of_left (record_fault mean o 0) _ f e)

  module _ (passed0 : record_fault mean o 0 ≡ None) where
    pub second_refused : (f : Refusal) → record_fault mean o 1 ≡ Some f → Hears (Err f) x
    second_refused f e = offer_refused f (of_right (record_fault mean o 0) _ passed0 ∙ of_left (record_fault mean o 1) _ f e)

    module _ (passed1 : record_fault mean o 1 ≡ None) where
      to_changes : offer_fault mean seen o ≡ changes_fault seen.force seen.at o
      to_changes = of_right (record_fault mean o 0) _ passed0 ∙ of_right (record_fault mean o 1) _ passed1

      pub change_refused : x.mode ≡ mode.Running → (f : Refusal) → changes_fault (Some (copied x.copies)) x.copies.standing o ≡ Some f → Hears (Err f) x
      change_refused on f e =
          offer_refused f (to_changes ∙ subst (λ (m : Mode). changes_fault (force_in m x.copies) x.copies.standing o ≡ Some f) (sym on) e)

      taken_over : (b0 b1 : ℕ) → Passed (m0 x.first) (k0 x.first) o 0 b0 → Passed (m1 x.second) (k1 x.second) o 1 b1 → (y : Copies) → Taken o (both b0 b1) x.copies y →
          changes_fault seen.force seen.at o ≡ None → Hears (Ok (both b0 b1)) (record { mode = mode.Running; copies = y; first = x.first; second = x.second })
      unfolding answers_offer
      taken_over b0 b1 p0 p1 y h e =
          let bounds : both b0 b1 ≡ bounds_of o = rw (p0.value, p1.value) refl in
          let a : answers_offer mean seen o ≡ Ok (bounds_of o) = accepts (offer_fault mean seen o) (bounds_of o) (to_changes ∙ e) in
          let s : after mean seen (offered o) ≡ in_force o seen = ap (λ r. unless_err r (in_force o seen) seen) a in
          let now : shown mode.Running y ≡ in_force o seen = cc (h.same, h.at, bounds) in
          heard m0 k0 m1 k1 x (record { mode = mode.Running; copies = y; first = x.first; second = x.second }) (offered o) (to_offer (Ok (both b0 b1))) refl refl
          (ap (λ b. to_offer (Ok b)) bounds ∙ ap to_offer (sym a))
          (λ g. (now ∙ sym s, subst (Good mean) (sym s) (subst (λ (b : Sides ℕ). BothRun mean o (taken b seen.at)) bounds (good_taken mean seen.at seen.force o b0 b1 g p0 p1 e))))

      pub taken_idle : (b0 b1 : ℕ) → Passed (m0 x.first) (k0 x.first) o 0 b0 → Passed (m1 x.second) (k1 x.second) o 1 b1 → (y : Copies) → Taken o (both b0 b1) x.copies y → x.mode ≡ mode.Idle →
          Hears (Ok (both b0 b1)) (record { mode = mode.Running; copies = y; first = x.first; second = x.second })
      taken_idle b0 b1 p0 p1 y h off =
          taken_over b0 b1 p0 p1 y h (subst (λ (m : Mode). changes_fault (force_in m x.copies) x.copies.standing o ≡ None) (sym off) refl)

      pub taken_running : (b0 b1 : ℕ) → Passed (m0 x.first) (k0 x.first) o 0 b0 → Passed (m1 x.second) (k1 x.second) o 1 b1 → (y : Copies) → Taken o (both b0 b1) x.copies y → x.mode ≡ mode.Running →
          changes_fault (Some (copied x.copies)) x.copies.standing o ≡ None → Hears (Ok (both b0 b1)) (record { mode = x.mode; copies = y; first = x.first; second = x.second })
      taken_running b0 b1 p0 p1 y h on e =
          subst (λ (m : Mode). Hears (Ok (both b0 b1)) (record { mode = m; copies = y; first = x.first; second = x.second })) (sym on)
          (taken_over b0 b1 p0 p1 y h (subst (λ (m : Mode). changes_fault (force_in m x.copies) x.copies.standing o ≡ None) (sym on) e))

-- a running cell accepts an offer exactly if it is acceptable
module _ (g : Games) (a : Standing) (was o : Offering) where
  abbrev running : Log
  running = record { at = a; force = Some was }

  not_acceptable : (f : Refusal) → changes_fault (Some was) a o ≡ Some f → Acceptable g running o → ⊥
  not_acceptable f e p =
      let w = p.go_over refl in
      not_some (sym e ∙ of_none _ _ (no_change_fault running o 0 w.0) (no_change_fault running o 1 w.1))

  go_over : changes_fault (Some was) a o ≡ None → GoesOver running o 0 × GoesOver running o 1
  go_over e = (goes_over running o 0 (none_left _ _ e), goes_over running o 1 (none_right (change_fault a (ranks_in (Some was) a) o 0) _ e))

module _ (g : Games) (x : Copies) (o : Offering) (m : Mode) (on : m ≡ mode.Running) where
  pub refused_exactly : (f : Refusal) → changes_fault (Some (copied x)) x.standing o ≡ Some f → Decides false (Acceptable g (shown m x) o)
  refused_exactly f e =
      (λ z. absurd (not_true z), λ p. absurd (subst (λ (k : Mode). Acceptable g (shown k x) o → ⊥) (sym on) (not_acceptable g x.standing (copied x) o f e) p))

  pub accepted_exactly : changes_fault (Some (copied x)) x.standing o ≡ None → Ranked g.machines.first g.marks.first o.table o.deal 0 o.records.first →
      Ranked g.machines.second g.marks.second o.table o.deal 1 o.records.second → Decides true (Acceptable g (shown m x) o)
  accepted_exactly e r0 r1 =
      (λ z. record { first = r0; second = r1; go_over = λ s. subst (λ (k : Mode). GoesOver (shown k x) o 0 × GoesOver (shown k x) o 1) (sym on) (go_over g x.standing (copied x) o e) }, λ p. refl)
