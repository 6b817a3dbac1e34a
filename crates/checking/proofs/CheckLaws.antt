-- A check finds no fault exactly if the bytes are a ranked controller.
use Rattle.std.proofs.Common.{◌≡◌, ℕ, ◌<◌, ◌≤◌, true, List, Some, None, is_ok, Decides, Option, Result, sym, refl, arith}
use Rattle.std.specs.Result.{IsErrAnd}
use Rattle.std.proofs.lemmas.Result.{err_from_is_err_and}
use Rattle.std.proofs.lemmas.Bool.Decides.{nat_tests}
use Rattle.reading.specs.Firsts.{first_below}
use Rattle.reading.specs.Records.{Parts, parts_in, bound_of, record_fault}
use Rattle.reading.proofs.FirstLaws.{below_some}
use Rattle.reading.proofs.RecordLaws.{lawful_from, lawful_to}
use Rattle.reading.specs.declared.phase_table.PhaseTable.{PhaseTable}
use Rattle.games.specs.declared.deal.Deal.{Deal}
use Rattle.games.specs.Machines.{Model, Marks, Lawful}
use Rattle.games.specs.Sets.{width}
use Rattle.reading.specs.Sides.{pick}
use Rattle.games.proofs.SetLaws.{has_low}
use Rattle.games.proofs.DealLaws.{relied_in_range}
use Rattle.checking.specs.Arenas.{arena, promised, relied, suits, Suits}
use Rattle.checking.specs.Controllers.{plan_of, plan_in, Bound}
use Rattle.checking.specs.declared.faults.CheckFault.{CheckFault}
use Rattle.checking.specs.Faults.{Refusal, numbers, refused}
use Rattle.checking.specs.Checks.{plan_fault, sized, Sized, check_fault, Ranked}
use Rattle.checking.proofs.ControllerLaws.{Fitted, controller_of, of_controller}
use Rattle.checking.proofs.BoundLaws.{kept_inside, bound_above, bound_is}

-- a loop to m stops at its first fault
pub first_at : (f : ℕ → Option Refusal) (k m n : ℕ) (x : Refusal) → m ≡ n → k < m → first_below k f ≡ None → Some x ≡ f k → Some x ≡ first_below n f
first_at f k m n x h l i j = sym (below_some n f k x (omega arith) i (sym j))

pub stops_below : {A : Type 0} (f : ℕ → Option Refusal) (k m n : ℕ) (x : CheckFault) (r : Result A CheckFault)
    → IsErrAnd r (λ y. y ≡ x) → m ≡ n → k < m → first_below k f ≡ None → Some (numbers x) ≡ f k → refused r ≡ first_below n f
stops_below f k m n x r e h l i j = let p = err_from_is_err_and r e in rw (p.1, p.2) (first_at f k m n (numbers x) h l i j)

-- a deal names signals of each side alone
relied_low : (d : Deal) (side p b : ℕ) → relied d side p b ≡ true → b < pick side d.sizes.signals.second d.sizes.signals.first
relied_low d side p b e = (relied_in_range d side p b e).1

promised_low : (d : Deal) (side p x : ℕ) → promised d side p x ≡ true → x < 4
promised_low d side p x e = has_low width (pick side d.terms.first.promise d.terms.second.promise) p x e

module _ (m : Model) (t : PhaseTable) (d : Deal) (side : ℕ) where
  pub suits_from : suits m t d side ≡ true → Suits m t d side
  suits_from e = record {
    there = grind (arith, nat_tests);
    phases = grind (arith, nat_tests);
    signals0 = grind (arith, nat_tests);
    signals1 = grind (arith, nat_tests);
    own = grind (arith, nat_tests);
    partner = grind (arith, nat_tests);
  }

  pub suits_to : Suits m t d side → suits m t d side ≡ true
  suits_to s = grind (arith, nat_tests)

  sized_from : (r : Parts) → sized m t r ≡ true → Sized m t r
  sized_from r e = record { states = grind (arith, nat_tests); phases = grind (arith, nat_tests); signals = grind (arith, nat_tests) }

  sized_to : (r : Parts) → Sized m t r → sized m t r ≡ true
  sized_to r s = grind (arith, nat_tests)

  module _ (k : Marks) (w : Lawful m) (xs : List ℕ) where
    fitted : Suits m t d side → Sized m t (parts_in xs) → Fitted (arena m k t d side) (plan_in xs)
    fitted s z = record {
      inside = λ s' p j. let i = kept_inside (parts_in xs) s' p j in (omega (arith, i.0, z.states), omega (arith, i.1, z.phases));
      relies = λ p b e. let h : pick side d.sizes.signals.second d.sizes.signals.first ≡ pick side t.sizes.signals.second t.sizes.signals.first = cc (s.signals1, s.signals0) in omega (arith, relied_low d side p b e, s.partner);
      moves = λ s' x b t' e. (w.inside s' x b t' e).3;
    }

    pub ranked_from : bound_of (parts_in xs) ≤ 65535 → check_fault m k t d side xs ≡ None → Ranked m k t d side xs
    ranked_from top e =
        let s : suits m t d side ≡ true = grind (arith, nat_tests) in
        let l : record_fault xs ≡ None = grind (arith, nat_tests) in
        let z : sized m t (parts_in xs) ≡ true = grind (arith, nat_tests) in
        let f : plan_fault (arena m k t d side) (plan_in xs) ≡ None = grind (arith, nat_tests) in
        record {
          suits = suits_from s;
          lawful = lawful_from xs l;
          sized = sized_from (parts_in xs) z;
          controller =
              controller_of (arena m k t d side) (plan_in xs) (fitted (suits_from s) (sized_from (parts_in xs) z))
              (λ s' p j. omega (arith, top, bound_above (parts_in xs) s' p j)) f;
        }

    pub ranked_to : Ranked m k t d side xs → check_fault m k t d side xs ≡ None
    ranked_to r =
        let s = suits_to r.suits in
        let l = lawful_to xs r.lawful in
        let z = sized_to (parts_in xs) r.sized in
        let f = of_controller (arena m k t d side) (plan_in xs) (fitted r.suits r.sized) (λ p x e. omega (arith, promised_low d side p x e)) r.controller in
        grind (arith, nat_tests)

    -- refused: the bytes are no ranked controller
    pub refuses : (x : CheckFault) (r : Result ℕ CheckFault) → IsErrAnd r (λ y. y ≡ x) → check_fault m k t d side xs ≡ Some (numbers x) → Decides (is_ok r) (Ranked m k t d side xs)
    refuses x r i e = let p = err_from_is_err_and r i in rw p.1 (λ z. absurd (cc), λ r. absurd (let n = ranked_to r in cc))

    -- no fault: they are one, and this is its bound
    pub accepts : (b : ℕ) → b ≡ bound_of (parts_in xs) → b < 65536 → check_fault m k t d side xs ≡ None → Ranked m k t d side xs × Bound (plan_in xs) b
    accepts b h l e = let r = ranked_from (omega arith) e in rw h (r, bound_is (parts_in xs) m.start 0 r.controller.starts)

    -- past reading and sizes, the first fault is the plan's
    pub plan_next : (r : Parts) → r ≡ parts_in xs → suits m t d side ≡ true → record_fault xs ≡ None → sized m t r ≡ true
        → check_fault m k t d side xs ≡ plan_fault (arena m k t d side) (plan_of r)
    plan_next r v e h z = let y = rw v at z in rw (v, e, h, y) refl
