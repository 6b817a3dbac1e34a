-- What a side plays with the watched toggle where two of them meet, and what is refused there before any plan is looked at.
use Rattle.std.proofs.Common.{◌≡◌, ℕ, zero, suc, ◌<◌, Bool, true, List, None, refl, ap, ◌∙◌, arith}
use Rattle.std.specs.Option.{option_map}
use mathlib.Core.Path.{fun_ext}
use Rattle.reading.specs.Records.{parts_in, record_fault}
use Rattle.reading.specs.declared.phase_table.PhaseTable.{PhaseTable}
use Rattle.reading.specs.declared.sides.Sides.{Sides}
use Rattle.reading.proofs.FirstLaws.{of_right, unless_none}
use Rattle.games.specs.declared.deal.Deal.{Deal}
use Rattle.games.specs.declared.deal.Terms.{Terms}
use Rattle.games.specs.Machines.{Model, Marks, forbidden_in, goal_in}
use Rattle.games.specs.Sets.{width, has}
use Rattle.checking.specs.declared.faults.CheckFault.TheVariants.{Sizes, RecordSizes}
use Rattle.checking.specs.Arenas.{Arena, arena, suits, promised, relied, follow}
use Rattle.checking.specs.Controllers.{plan_in}
use Rattle.checking.specs.Faults.{numbers, unread}
use Rattle.checking.specs.Checks.{sized, plan_fault, check_fault}
use Rattle.checking.proofs.PlayLaws.{follow_low}
use Rattle.trials.specs.Toggles.{watched_toggle, toggle_marks, OnePhase, Meets}

-- what is played with the watched toggle
abbrev playing_with : ℕ → (ℕ → ℕ → Bool) → (ℕ → ℕ → Bool) → (ℕ → ℕ → ℕ → ℕ) → Arena
playing_with n f g h = record {
  states = watched_toggle.states;
  phases = n;
  start = watched_toggle.start;
  own = watched_toggle.own;
  partner = watched_toggle.partner;
  promised = f;
  relied = g;
  follow = h;
  move = watched_toggle.move;
  forbidden = forbidden_in watched_toggle toggle_marks;
  goal = goal_in watched_toggle toggle_marks;
}

-- under a set of signals that is promised and relied on, where phase 0 follows
abbrev pub bay_under : ℕ → Arena
bay_under set = playing_with 1 (has width set) (has width set) (λ p x b. 0)

-- signal 1 is promised and relied on
abbrev pub bay : Arena
bay = bay_under 2

-- where sizes fit and the record is lawful, a check is that of the record's plan in its arena
pub by_plan : (m : Model) (k : Marks) (t : PhaseTable) (d : Deal) (side : ℕ) (xs : List ℕ) (a : Arena) → suits m t d side ≡ true → record_fault xs ≡ None → sized m t (parts_in xs) ≡ true →
    arena m k t d side ≡ a → check_fault m k t d side xs ≡ plan_fault a (plan_in xs)
by_plan m k t d side xs a fits lawful size plays =
    of_right _ _ (unless_none (suits m t d side) (numbers Sizes) fits)
    ∙ of_right _ _ (ap (option_map unread) lawful)
    ∙ of_right _ _ (unless_none (sized m t (parts_in xs)) (numbers RecordSizes) size)
    ∙ ap (λ b. plan_fault b (plan_in xs)) plays

-- the one phase follows itself
pub stays_put : (t : PhaseTable) → OnePhase t → (side p x b : ℕ) → follow t side p x b ≡ 0
stays_put t o side p x b = omega (arith, follow_low t side p x b, o.phases)

module _ (set : ℕ) (t : PhaseTable) (d : Deal) (m : Meets set t d) where
  playing : (side : ℕ) (f g : ℕ → ℕ → Bool) → f ≡ has width set → g ≡ has width set → playing_with t.sizes.phases f g (follow t side) ≡ bay_under set
  playing side f g e h =
      ap (λ n. playing_with n f g (follow t side)) m.one_phase.phases ∙ ap (λ k. playing_with 1 k g (follow t side)) e ∙ ap (λ k. playing_with 1 (has width set) k (follow t side)) h
      ∙ ap (playing_with 1 (has width set) (has width set)) (fun_ext (λ p. fun_ext (λ x. fun_ext (λ b. stays_put t m.one_phase side p x b))))

  -- what either side plays
  pub played : (side : ℕ) → arena watched_toggle toggle_marks t d side ≡ bay_under set
  played zero = playing 0 (promised d 0) (relied d 0) (ap (λ (s : Sides Terms). has width s.first.promise) m.dealt.terms) (ap (λ (s : Sides Terms). has width s.first.reliance) m.dealt.terms)
  played (suc n) = playing (suc n) (promised d 1) (relied d 1) (ap (λ (s : Sides Terms). has width s.second.promise) m.dealt.terms) (ap (λ (s : Sides Terms). has width s.second.reliance) m.dealt.terms)

  -- the sizes are those of table and deal
  pub fits : (side : ℕ) → side < 2 → suits watched_toggle t d side ≡ true
  fits zero l = rw (m.dealt.sizes, m.one_phase.phases, m.one_phase.first, m.one_phase.second) refl
  fits (suc zero) l = rw (m.dealt.sizes, m.one_phase.phases, m.one_phase.first, m.one_phase.second) refl
  fits (suc (suc n)) l = absurd (omega (arith, l))

  -- so a lawful record of four states, one phase and two signals is refused only for its plan
  pub plan_alone : (side : ℕ) (xs : List ℕ) → side < 2 → record_fault xs ≡ None → sized watched_toggle t (parts_in xs) ≡ true →
      check_fault watched_toggle toggle_marks t d side xs ≡ plan_fault (bay_under set) (plan_in xs)
  plan_alone side xs l lawful size = by_plan watched_toggle toggle_marks t d side xs (bay_under set) (fits side l) lawful size (played side)
