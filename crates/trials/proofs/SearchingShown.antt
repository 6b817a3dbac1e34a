-- The first workable deal of two toggles: none of the four candidates before it is workable, and it is.
use Rattle.std.proofs.Common.{◌≡◌, ℕ, zero, suc, ◌-◌, ◌<◌, true, List, [], ◌∷◌, length, get_or, Some, None, Ok, Err, Result, sym, refl, ap, ◌∙◌, subst, inl, inr, arith}
use Rattle.std.proofs.lemmas.Bool.{cases_lt, true≢false}
use Rattle.reading.specs.Bytes.{within}
use Rattle.reading.specs.Sides.{both}
use Rattle.reading.specs.declared.sides.Sides.{Sides}
use Rattle.reading.specs.declared.phase_table.PhaseTable.{PhaseTable}
use Rattle.reading.proofs.FirstLaws.{not_some}
use Rattle.games.specs.Sets.{width, has}
use Rattle.games.proofs.SetLaws.{in_words}
use Rattle.games.specs.declared.deal.Deal.{Deal}
use Rattle.games.specs.declared.deal.Terms.{Terms}
use Rattle.games.specs.Signings.{Dealt}
use Rattle.checking.specs.declared.faults.SearchFault.{SearchFault}
use Rattle.checking.specs.declared.faults.SearchFault.TheVariants as fault
use Rattle.checking.specs.declared.search.Agreement.{Agreement}
use Rattle.checking.specs.Arenas.{arena, relied}
use Rattle.checking.specs.Controllers.{Controlled}
use Rattle.checking.specs.Searching.{promises, candidates, candidate, how_many, terms_of, search_head, Searches, Workable, NoneBefore}
use Rattle.checking.proofs.CandidateLaws.{candidate_deal}
use Rattle.checking.proofs.SearchingLaws.{untold}
use Rattle.trials.specs.Toggles.{watched_toggle, toggle_marks, OnePhase, Meets}
use Rattle.trials.specs.Searches.{toggles, toggles_marks, Finds, Refuses, Searching}
use Rattle.trials.proofs.Played.{stays_put, played}
use Rattle.trials.proofs.SolvingShown.{plan, controls}

-- three promises each way: signal 0, signal 1, both
three : promises 1 2 ≡ 1 ∷ 2 ∷ 3 ∷ []
unfolding promises
three = refl

module _ (t : PhaseTable) (o : OnePhase t) where
  nine : candidates t.sizes ≡ both 1 1 ∷ both 1 2 ∷ both 1 3 ∷ both 2 1 ∷ both 2 2 ∷ both 2 3 ∷ both 3 1 ∷ both 3 2 ∷ both 3 3 ∷ []
  nine = rw (o.phases, o.first, o.second, three) refl

  count : how_many t.sizes ≡ 9
  count = ap length nine

  at : (i : ℕ) (c : Sides ℕ) → get_or (both 1 1 ∷ both 1 2 ∷ both 1 3 ∷ both 2 1 ∷ both 2 2 ∷ both 2 3 ∷ both 3 1 ∷ both 3 2 ∷ both 3 3 ∷ []) i (both 0 0) ≡ c → candidate t.sizes i ≡ c
  at i c e = ap (λ (cs : List (Sides ℕ)). get_or cs i (both 0 0)) nine ∙ e

  -- a deal on a candidate under which side 0 can be kept in state 0, whatever it shows
  stuck : (c : Sides ℕ) (b : ℕ) (d : Deal) → Dealt t.sizes (terms_of c) d → has width c.second 0 b ≡ true → ((x : ℕ) → has width c.first 0 x ≡ true → watched_toggle.move 0 x b 0 ≡ true) →
      Controlled (arena watched_toggle toggle_marks t d 0) → ⊥
  stuck c b d on relies moves y =
      let w = y.1.rival.serves 0 0 y.1.starts in
      let x = y.0.choice 0 0 in
      let p : has width c.first 0 x ≡ true = ap (λ (s : Sides Terms). has width s.first.promise 0 x) (sym on.terms) ∙ w.promised in
      let r : relied d 0 0 b ≡ true = ap (λ (s : Sides Terms). has width s.first.reliance 0 b) on.terms ∙ relies in
      let f = w.falls b 0 r (moves x p) refl in
      omega (arith, ap (y.0.rank 0) (stays_put t o 0 0 x b), f)

  -- the one signal of a promise
  zero_alone : (x : ℕ) → has width 1 0 x ≡ true → x ≡ 0
  zero_alone x e = omega (arith, (in_words width 1 1 1 refl).low 0 x e)

  one_alone : (x : ℕ) → has width 2 0 x ≡ true → x ≡ 1
  one_alone zero e = absurd (true≢false (sym e))
  one_alone (suc zero) e = refl
  one_alone (suc (suc x)) e = absurd (omega (arith, (in_words width 1 2 2 refl).low 0 (suc (suc x)) e))

  -- under none of the first four candidates has side 0 a controller
  lost : (i : ℕ) (d : Deal) → i < 4 → Dealt t.sizes (terms_of (candidate t.sizes i)) d → Controlled (arena watched_toggle toggle_marks t d 0) → ⊥
  lost zero d h on = stuck (both 1 1) 0 d (rw (at 0 (both 1 1) refl) at on) refl (λ x e. rw (zero_alone x e) refl)
  lost (suc zero) d h on = stuck (both 1 2) 1 d (rw (at 1 (both 1 2) refl) at on) refl (λ x e. rw (zero_alone x e) refl)
  lost (suc (suc zero)) d h on = stuck (both 1 3) 0 d (rw (at 2 (both 1 3) refl) at on) refl (λ x e. rw (zero_alone x e) refl)
  lost (suc (suc (suc zero))) d h on = stuck (both 2 1) 0 d (rw (at 3 (both 2 1) refl) at on) refl (λ x e. rw (one_alone x e) refl)
  lost (suc (suc (suc (suc i)))) d h on = absurd (omega (arith, h))

  -- so both sides have controllers there
  won : (d : Deal) → Dealt t.sizes (terms_of (candidate t.sizes 4)) d → Workable toggles toggles_marks t d
  won d on =
      let e : Dealt t.sizes (terms_of (both 2 2)) d = rw (at 4 (both 2 2) refl) at on in
      let m : Meets 2 t d = record { one_phase = o; dealt = e } in
      record { first = subst Controlled (sym (played 2 t d m 0)) (plan, controls); second = subst Controlled (sym (played 2 t d m 1)) (plan, controls) }

  -- with a fifth try it is found
  not_beyond : (n : ℕ) → 4 < n → NoneBefore toggles toggles_marks t n → ⊥
  not_beyond n h none = let d = candidate_deal t.sizes 4 (omega (arith, count)) in none 4 d.0 h (omega (arith, count)) d.1 (won d.0 d.1)

  untold_yet : (n : ℕ) → within 1 65535 n ≡ true → search_head toggles t.sizes n ≡ None
  untold_yet n h = untold toggles t.sizes n (rw (o.first, o.second) refl) h (rw count refl)

  found : (r : Result Agreement SearchFault) → Searches toggles toggles_marks t 65535 r → Finds t 5 r
  found (Ok a) w = (five, rw (at 4 (both 2 2) refl) at (rw five at w.dealt))
    where
      five : a.tries ≡ 5
      five = elim (cases_lt a.tries 5) [
        | inl l ↦ absurd (lost (a.tries - 1) a.deal (omega (arith, l, w.some)) w.dealt w.workable.first)
        | inr l ↦ elim (cases_lt 5 a.tries) [
          | inl g ↦ absurd (not_beyond (a.tries - 1) (omega (arith, g)) w.first)
          | inr g ↦ omega (arith, l, g)
        ]
      ]
  found (Err fault.Sizes) w = not_some (sym w ∙ untold_yet 65535 refl)
  found (Err fault.Allowance) w = not_some (sym w ∙ untold_yet 65535 refl)
  found (Err fault.TooMany) w = not_some (sym w ∙ untold_yet 65535 refl)
  found (Err (fault.Untried n)) w = absurd (omega (arith, w.more, count))
  found (Err (fault.NoDeal n)) w = not_beyond n (omega (arith, w.all, count)) w.none

  spent : (r : Result Agreement SearchFault) → Searches toggles toggles_marks t 4 r → Refuses 26 4 r
  spent (Ok a) w = absurd (lost (a.tries - 1) a.deal (omega (arith, w.allowed, w.some)) w.dealt w.workable.first)
  spent (Err fault.Sizes) w = absurd (not_some (sym w ∙ untold_yet 4 refl))
  spent (Err fault.Allowance) w = absurd (not_some (sym w ∙ untold_yet 4 refl))
  spent (Err fault.TooMany) w = absurd (not_some (sym w ∙ untold_yet 4 refl))
  spent (Err (fault.Untried n)) w = (refl, ap Some w.all)
  spent (Err (fault.NoDeal n)) w = absurd (omega (arith, w.all, w.allowed, count))

pub searching_shown : Searching
searching_shown = record { found = λ t r o w. found t o r w; spent = λ t r o w. spent t o r w }
