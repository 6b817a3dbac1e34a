-- What is known of every arena that is played, and how a signal leads there.
use Rattle.std.proofs.Common.{◌≡◌, ℕ, zero, suc, ◌<◌, ◌≤◌, Bool, true, false, cond, ◌&&◌, ltb, List, length, get_or, sym, refl, subst, ◌∙◌, Option, Some, None, inl, inr, Decides, MatchBool, MatchOption, arith}
use Rattle.reading.specs.PhaseTables.{table_of, next_phase}
use Rattle.reading.specs.declared.phase_table.PhaseTable.{PhaseTable}
use Rattle.games.specs.Sets.{width}
use Rattle.reading.specs.Sides.{pick}
use Rattle.games.proofs.SetLaws.{has_low}
use Rattle.checking.specs.declared.state_set.StateSet.{StateSet}
use Rattle.games.specs.declared.deal.Deal.{Deal}
use Rattle.checking.specs.declared.snapshot.Snapshot.{Snapshot}
use Rattle.checking.specs.declared.seat.Seat.{Seat}
use Rattle.checking.specs.StateSets.{member, nothing}
use Rattle.checking.specs.Arenas.{follow}
use Rattle.checking.specs.Snapshots.{snap_arena, played}
use Rattle.checking.specs.Solving.{Bounded, Leading, Answered, First}
use Rattle.std.specs.List.{range_with_len, AllWithin, HoldsAt}
use Rattle.std.proofs.lemmas.List.FromFn.{length-range_with_len, get_or-range_with_len}
use Rattle.reading.specs.Firsts.{some_below}
use Rattle.reading.proofs.FirstLaws.{some_test, none_test}
use Rattle.std.proofs.lemmas.Bool.{false≢true, cases_lt}

next_low : (t : PhaseTable) (p a b : ℕ) → next_phase (table_of t) p a b < t.sizes.phases
next_low t p a b = low (ltb p t.sizes.phases && (ltb a t.sizes.signals.first && ltb b t.sizes.signals.second)) (t.closed _) t.sizes.some_phases
  where
    low : (c : Bool) {x n : ℕ} → x < n → 1 ≤ n → cond c x 0 < n
    low true h l = h
    low false h l = omega arith

pub follow_low : (t : PhaseTable) (side p x b : ℕ) → follow t side p x b < t.sizes.phases
follow_low t zero p x b = next_low t p x b
follow_low t (suc n) p x b = next_low t p b x

pub snap_bounded : (z : Snapshot) (t : PhaseTable) (d : Deal) (side : ℕ) → Bounded (snap_arena z t d side)
snap_bounded z t d side = record {
  some_phase = omega (arith, t.sizes.some_phases);
  few_phases = t.sizes.few_phases;
  few_states = z.frame.few_states;
  starts = z.frame.starts;
  follows = follow_low t side;
  relies = λ p b e. has_low width (pick side d.terms.first.reliance d.terms.second.reliance) p b e;
  promises = λ p x e. has_low width (pick side d.terms.first.promise d.terms.second.promise) p x e;
}

pub bounded : (y : Seat Snapshot) → Bounded (played y)
bounded y = snap_bounded y.game.now y.table.now y.deal.now y.side

module _ (y : Seat Snapshot) (sets : List StateSet) (s p x b q : ℕ) (e : q ≡ (played y).follow p x b) (row : StateSet) (moves : (t : ℕ) → member row t ≡ (played y).move s x b t) where
  pub answered_from : (t : ℕ) × (member row t ≡ true) → ((t : ℕ) → member row t ≡ true → member (get_or sets q nothing) t ≡ true) → Answered (played y) sets s p x b
  answered_from some inside = record { goes = (some.0, sym (moves some.0) ∙ some.1); into = λ t m. rw e at (inside t (moves t ∙ m)) }

  pub answered_to : Answered (played y) sets s p x b → (t : ℕ) → member row t ≡ true → member (get_or sets q nothing) t ≡ true
  answered_to w t m = rw e (w.into t (sym (moves t) ∙ m))

-- the numbers of a range in turn
nth : (n k : ℕ) → k < n → (d : ℕ) → get_or (range_with_len 0 n) k d ≡ k
nth n k l d = get_or-range_with_len 0 n k d l ∙ (omega arith)

-- whether any number passes, where a range was searched
pub any_below : (n : ℕ) (f : ℕ → Bool) (r : Bool)
    → MatchBool r ((k : ℕ) × (k < length (range_with_len 0 n)) × HoldsAt (λ t. f t ≡ true) (range_with_len 0 n) k) (AllWithin (λ t. f t ≡ false) (range_with_len 0 n) 0 (length (range_with_len 0 n)))
    → r ≡ some_below n f
any_below n f true (k, l, e) = let h : k < n = omega (arith, l, length-range_with_len 0 n) in sym (some_test n f k h (subst (λ t. f t ≡ true) (nth n k h 0) (e 0)))
any_below n f false none = sym (none_test n f (λ k h. subst (λ t. f t ≡ false) (nth n k h 0) (none k 0 (omega arith) (omega (arith, h, length-range_with_len 0 n)))))

module _ (y : Seat Snapshot) (sets : List StateSet) (s p : ℕ) where
  -- a partner's signal is answered if it is relied on
  abbrev pub Met : ℕ → ℕ → Type 0
  Met x v = (played y).relied p v ≡ true → Answered (played y) sets s p x v

  abbrev pub Unmet : ℕ → ℕ → Type 0
  Unmet x v = ((played y).relied p v ≡ true) × (Answered (played y) sets s p x v → ⊥)

  pub leads_if_met : (x : ℕ) (r : Bool) → (played y).promised p x ≡ true → MatchBool r (AllWithin (Met x) (range_with_len 0 4) 0 4) ((k : ℕ) × (k < 4) × HoldsAt (Unmet x) (range_with_len 0 4) k) → Decides r (Leading (played y) sets s p x)
  leads_if_met x true e all = (λ _. record { promised = e; goes = λ v h. (met v h).goes; into = λ v t h. (met v h).into t }, λ _. refl)
    where
      met : (v : ℕ) → Met x v
      met v h = let l = (bounded y).relies p v h in subst (Met x) (nth 4 v l 0) (all v 0 (omega arith) l) h
  leads_if_met x false e (k, l, none) = (λ q. absurd (false≢true q), λ w. let u = subst (Unmet x) (nth 4 k l 0) (none 0) in absurd (u.1 (record { goes = w.goes k u.0; into = λ t. w.into k t u.0 })))

  abbrev pub Astray : ℕ → Type 0
  Astray x = Leading (played y) sets s p x → ⊥

  pub first_found : (r : Option ℕ) → MatchOption r (AllWithin Astray (range_with_len 0 4) 0 4)
      (λ x. Leading (played y) sets s p x × (i : ℕ) × (i < 4) × HoldsAt (λ z. z ≡ x) (range_with_len 0 4) i × AllWithin Astray (range_with_len 0 4) 0 i)
      → MatchOption r ((x : ℕ) → Astray x) (First (played y) sets s p)
  first_found None all = λ x w. let l = (bounded y).promises p x w.promised in subst Astray (nth 4 x l 0) (all x 0 (omega arith) l) w
  first_found (Some x) (w, i, l, here, before) = record {
    leads = w;
    least = λ z v. elim (cases_lt z i) [
      | inl h ↦ absurd (subst Astray (nth 4 z (omega arith) 0) (before z 0 (omega arith) h) v)
      | inr h ↦ omega (arith, h, nth 4 i l 0, here 0)
    ];
  }
