-- The solved record of the toggles, and that there is none under both signals.
use Rattle.std.proofs.Common.{◌≡◌, ℕ, zero, suc, ◌/◌, ◌<◌, ◌≤◌, true, false, ltb, List, [], ◌∷◌, length, None, Ok, Err, Result, sym, refl, ap, ◌∙◌, subst, inl, inr, arith}
use Rattle.std.specs.List.{list_all}
use Rattle.std.specs.Result.{result_map_both}
use Rattle.std.proofs.lemmas.Bool.{true≢false, cases_lt, ltb-true, and_parts}
use Rattle.std.proofs.lemmas.Nat.{le-div}
use Rattle.reading.specs.Limits.{AllBelow}
use Rattle.reading.specs.Records.{parts_in, bound_of}
use Rattle.reading.specs.declared.phase_table.PhaseTable.{PhaseTable}
use Rattle.reading.proofs.FirstLaws.{not_some, of_right, unless_none}
use Rattle.reading.proofs.RecordLaws.{lawful_from}
use Rattle.games.specs.declared.deal.Deal.{Deal}
use Rattle.games.specs.Sets.{width, has}
use Rattle.games.proofs.SetLaws.{in_words}
use Rattle.checking.specs.declared.faults.SolveFault.{SolveFault}
use Rattle.checking.specs.declared.faults.SolveFault.TheVariants as fault
use Rattle.checking.specs.Arenas.{suits}
use Rattle.checking.specs.Faults.{Refusal}
use Rattle.checking.specs.Checks.{answer, check_answer}
use Rattle.checking.specs.Solutions.{Solved, Solution, Solves, solve_number, solve_head}
use Rattle.checking.specs.Controllers.{Plan, plan_in, Kept, Serves, Rival, Controller}
use Rattle.checking.proofs.BoundLaws.{kept_inside, bound_above}
use Rattle.checking.proofs.ControllerLaws.{Fitted, controller_of}
use Rattle.trials.specs.Toggles.{watched_toggle, toggle_marks, ranked, Meets}
use Rattle.trials.specs.Solutions.{told, Solving}
use Rattle.trials.proofs.Played.{bay, bay_under, played, fits, plan_alone}

abbrev pub plan : Plan
plan = plan_in (ranked 1 0 2 0)

-- a move ends in one of the four states
moves_low : (s x b t : ℕ) → watched_toggle.move s x b t ≡ true → t < 4
moves_low s x b t e = elim (cases_lt t 4) [
  | inl l ↦ l
  | inr h ↦ (let l : t / 2 < 2 = ltb-true _ _ (and_parts _ _ (and_parts _ _ (and_parts _ _ (and_parts _ _ e).0).0).0).1 in absurd (omega (arith, l, le-div 2 t 2 (omega arith) h)))
]

-- the one signal of the set is signal 1, in phase 0
one : (p x : ℕ) → has width 2 p x ≡ true → x ≡ 1
one zero zero e = absurd (true≢false (sym e))
one zero (suc zero) e = refl
one zero (suc (suc x)) e = absurd (omega (arith, (in_words width 1 2 2 refl).low 0 (suc (suc x)) e))
one (suc p) x e = absurd (omega (arith, (in_words width 1 2 2 refl).ends (suc p) x e))

fitted : Fitted bay plan
fitted = record {
  inside = kept_inside (parts_in (ranked 1 0 2 0));
  relies = λ p b e. (in_words width 1 2 2 refl).low p b e;
  moves = moves_low;
}

pub controls : Controller bay plan
controls = controller_of bay plan fitted (λ s p k. omega (arith, bound_above (parts_in (ranked 1 0 2 0)) s p k)) refl

-- each of the four states is kept, with choice 1
kept : (s p : ℕ) → s < 4 → p < 1 → (plan.choice s p ≡ 1) × Kept plan s p
kept zero zero l h = (refl, λ e. absurd (let z : ◌≡◌ {A = ℕ} 1 255 = e.0 in omega arith))
kept (suc zero) zero l h = (refl, λ e. absurd (let z : ◌≡◌ {A = ℕ} 1 255 = e.0 in omega arith))
kept (suc (suc zero)) zero l h = (refl, λ e. absurd (let z : ◌≡◌ {A = ℕ} 1 255 = e.0 in omega arith))
kept (suc (suc (suc zero))) zero l h = (refl, λ e. absurd (let z : ◌≡◌ {A = ℕ} 1 255 = e.0 in omega arith))
kept (suc (suc (suc (suc s)))) p l h = absurd (omega arith)
kept s (suc p) l h = absurd (omega arith)

module _ (r : Plan) (v : Rival bay r) where
  -- no rival ranks a state 0 that is no goal
  above : (s : ℕ) → bay.goal s ≡ false → Kept r s 0 → 1 ≤ r.rank s 0
  above s g k = elim (cases_lt 0 (r.rank s 0)) [
    | inl l ↦ l
    | inr h ↦ absurd (true≢false (sym (v.goals_at_zero s 0 k (omega arith)) ∙ g))
  ]

  -- from state 2 the way leads over state 0
  two : Kept r 2 0 → 2 ≤ r.rank 2 0
  two k =
      let w = v.serves 2 0 k in
      let x = one 0 (r.choice 2 0) w.promised in
      let m : bay.move 2 (r.choice 2 0) 1 0 ≡ true = rw x refl in
      omega (arith, w.falls 1 0 refl m refl, above 0 refl (w.stays 1 0 refl m))

  least : (s p : ℕ) → s < 4 → p < 1 → Kept r s p → plan.rank s p ≤ r.rank s p
  least zero zero l h k = above 0 refl k
  least (suc zero) zero l h k = omega arith
  least (suc (suc zero)) zero l h k = two k
  least (suc (suc (suc zero))) zero l h k = omega arith
  least (suc (suc (suc (suc s)))) p l h k = absurd (omega arith)
  least s (suc p) l h k = absurd (omega arith)

-- whichever signal is shown, the partner may show 0, and state 0 stays
stuck : (c : Plan) (x : ℕ) → x < 2 → Serves (bay_under 3) c 0 0 x → ⊥
stuck c zero l w = omega (arith, w.falls 0 0 refl refl refl)
stuck c (suc zero) l w = omega (arith, w.falls 0 0 refl refl refl)
stuck c (suc (suc x)) l w = omega arith

solved : Solved bay plan
solved = record {
  rival = controls.rival;
  keeps = λ r v s p k. (kept s p (v.inside s p k).0 (v.inside s p k).1).1;
  least = λ r v s p k. least r v s p (v.inside s p k).0 (v.inside s p k).1 k;
  lowest = λ s p x k w. (let i = kept_inside (parts_in (ranked 1 0 2 0)) s p k in omega (arith, (kept s p i.0 i.1).0, one p x w.promised));
}

none : (c : Plan) → Controller (bay_under 3) c → ⊥
none c k = let w = k.rival.serves 0 0 k.starts in stuck c (c.choice 0 0) ((in_words width 1 2 3 refl).low 0 _ w.promised) w

-- nothing is refused before solving, into a buffer of 16 bytes
module _ (set : ℕ) (t : PhaseTable) (d : Deal) (side : ℕ) (m : Meets set t d) (l : side < 2) where
  head : (size : ℕ) → size ≡ 16 → solve_head watched_toggle t d side size ≡ None
  head size e =
      of_right _ _ (unless_none (suits watched_toggle t d side) (solve_number fault.Sizes) (fits set t d m side l))
      ∙ rw (e, m.one_phase.phases) refl

-- bytes that are all below 256
all_small : (xs : List ℕ) → list_all (λ x. ltb x 256) xs ≡ true → AllBelow 256 xs
all_small [] e i = omega arith
all_small (x ∷ xs) e zero = ltb-true x 256 (and_parts _ _ e).0
all_small (x ∷ xs) e (suc i) = all_small xs (and_parts _ _ e).1 i

module _ (t : PhaseTable) (d : Deal) (side : ℕ) (m : Meets 2 t d) (l : side < 2) where
  passes : check_answer watched_toggle toggle_marks t d side (ranked 1 0 2 0) ≡ Ok 2
  passes = ap (λ f. answer f (bound_of (parts_in (ranked 1 0 2 0)))) (plan_alone 2 t d m side (ranked 1 0 2 0) l refl (rw m.one_phase.phases refl))

  solution : Solution watched_toggle toggle_marks t d side (ranked 1 0 2 0)
  solution = record {
    bytes = all_small (ranked 1 0 2 0) refl;
    lawful = lawful_from (ranked 1 0 2 0) refl;
    sized = record { states = refl; phases = sym m.one_phase.phases; signals = refl };
    solved = subst (λ a. Solved a plan) (sym (played 2 t d m side)) solved;
  }

  answers : (old new : List ℕ) (r : Result ℕ SolveFault) → length old ≡ 16 → Solves watched_toggle toggle_marks t d side old new r → (told r ≡ Ok 2) × (new ≡ ranked 1 0 2 0)
  answers old new (Ok b) size w =
      let e : ranked 1 0 2 0 ≡ new = w.only (ranked 1 0 2 0) solution in
      (ap (result_map_both (λ b. b) (λ (f : Refusal). f.number)) (sym w.accepted ∙ ap (check_answer watched_toggle toggle_marks t d side) (sym e) ∙ passes), sym e)
  answers old new (Err f) size w = absurd (elim w.1 [
    | inl h ↦ not_some (sym h ∙ head 2 t d side m l (length old) size)
    | inr h ↦ h.2 (plan, subst (λ a. Controller a plan) (sym (played 2 t d m side)) controls)
  ])

module _ (t : PhaseTable) (d : Deal) (side : ℕ) (m : Meets 3 t d) (l : side < 2) where
  refuses : (old new : List ℕ) (r : Result ℕ SolveFault) → length old ≡ 16 → Solves watched_toggle toggle_marks t d side old new r → (told r ≡ Err 23) × (new ≡ old)
  refuses old new (Ok b) size w = absurd (none (plan_in new) (subst (λ a. Controller a (plan_in new)) (played 3 t d m side) (record { rival = w.solution.solved.rival; starts = w.starts })))
  refuses old new (Err f) size w = (
    elim w.1 [
      | inl h ↦ absurd (not_some (sym h ∙ head 3 t d side m l (length old) size))
      | inr h ↦ ap Err h.1
    ],
    w.0,
  )

pub solving_shown : Solving
solving_shown = record { solved = λ t d side old new r m l size w. answers t d side m l old new r size w; none = λ t d side old new r m l size w. refuses t d side m l old new r size w }
