-- The bay of two phases: its machines are lawful, it has a table and a deal, and its records pass.
use Rattle.std.proofs.Common.{◌≡◌, ℕ, ◌<◌, ◌==◌, Bool, true, false, cond, ltb, List, [], ◌∷◌, get_or, None, refl, ap, ◌∙◌, arith}
use Rattle.std.proofs.lemmas.Bool.{ltb-true}
use Rattle.reading.specs.declared.sides.Sides.{Sides}
use Rattle.reading.specs.declared.sizes.Sizes.{Sizes}
use Rattle.reading.specs.declared.phase_table.PhaseTable.{PhaseTable}
use Rattle.reading.specs.Marks.{implies}
use Rattle.reading.specs.PhaseTables.{Table, table_in, next_phase}
use Rattle.reading.specs.Sides.{both, pick}
use Rattle.reading.proofs.Padding.{appended_below}
use Rattle.games.specs.Sets.{width, has}
use Rattle.games.specs.declared.deal.Deal.{Deal}
use Rattle.games.specs.declared.deal.Terms.{Terms}
use Rattle.games.specs.Machines.{Model, Lawful, forbidden_in, goal_in}
use Rattle.games.specs.LiftLaws.{inside}
use Rattle.games.proofs.SetLaws.{all_at}
use Rattle.checking.specs.Arenas.{Arena, arena, suits, promised, relied}
use Rattle.checking.specs.Checks.{check_fault}
use Rattle.checking.specs.Searching.{terms_of}
use Rattle.trials.specs.Witness.{follows, leader, follower, marks, table, promises, Stands, keeping}
use Rattle.trials.proofs.Played.{by_plan}

pub lawful : (named : ℕ → ℕ → ℕ) → Lawful (follows named)
lawful named = record {
  some_states = omega arith;
  few_states = omega arith;
  some_own = omega arith;
  few_own = omega arith;
  some_partner = omega arith;
  few_partner = omega arith;
  starts = omega arith;
  labels = λ s. omega arith;
  unlabelled = λ s h. refl;
  inside = λ s a b t. inside 3 2 2 s a b t (t == cond (a == b) 2 (named a b));
}

-- a table and a deal of the bay
abbrev sizes : Sizes
sizes = record {
  phases = 2;
  signals = both 2 2;
  some_phases = omega arith;
  few_phases = omega arith;
  some0 = omega arith;
  few0 = omega arith;
  some1 = omega arith;
  few1 = omega arith;
}

abbrev entries : List ℕ
entries = 0 ∷ 1 ∷ 0 ∷ 0 ∷ 1 ∷ 1 ∷ 0 ∷ 1 ∷ []

entry_low : (i : ℕ) → i < 8 → get_or entries i 0 < 2
entry_low i h = ltb-true _ _ (all_at 8 (λ j. ltb (get_or entries j 0) 2) refl i h)

abbrev some_table : PhaseTable
some_table = record { sizes = sizes; entries = (table_in table).entries; closed = λ i. appended_below entries 120 2 (omega arith) entry_low i }

pub same : (b : Bool) → implies b b ≡ true
same true = refl
same false = refl

abbrev some_deal : Deal
some_deal = record {
  sizes = sizes;
  terms = terms_of promises;
  described0 = refl;
  described1 = refl;
  kept0 = λ p j h. same (has width 33 p j);
  kept1 = λ p j h. same (has width 18 p j);
}

pub there : (t : PhaseTable) × (d : Deal) × Stands t d
there = (some_table, some_deal, record { table = refl; dealt = record { sizes = refl; terms = refl } })

-- what a side plays, by what a table says and by both sides' terms
abbrev arena_by : Model → Table → Sides Terms → ℕ → Arena
arena_by m t s side = record {
  states = m.states;
  phases = t.phases;
  start = m.start;
  own = m.own;
  partner = m.partner;
  promised = has width (pick side s.first.promise s.second.promise);
  relied = has width (pick side s.first.reliance s.second.reliance);
  follow = λ p x b. pick side (next_phase t p x b) (next_phase t p b x);
  move = m.move;
  forbidden = forbidden_in m marks;
  goal = goal_in m marks;
}

module _ (t : PhaseTable) (d : Deal) (s : Stands t d) where
  phases : t.sizes.phases ≡ 2
  phases = ap (λ (x : Table). x.phases) s.table

  signals0 : t.sizes.signals.first ≡ 2
  signals0 = ap (λ (x : Table). x.signals0) s.table

  signals1 : t.sizes.signals.second ≡ 2
  signals1 = ap (λ (x : Table). x.signals1) s.table

  fits0 : suits leader t d 0 ≡ true
  fits0 = rw (s.dealt.sizes, phases, signals0, signals1) refl

  fits1 : suits follower t d 1 ≡ true
  fits1 = rw (s.dealt.sizes, phases, signals0, signals1) refl

  played : (m : Model) (side : ℕ) → arena m marks t d side ≡ arena_by m (table_in table) (terms_of promises) side
  played m side = ap (λ (x : Table). arena_by m x d.terms side) s.table ∙ ap (λ (x : Sides Terms). arena_by m (table_in table) x side) s.dealt.terms

  -- the records of both offers pass
  pub high0 : check_fault leader marks t d 0 (keeping 0 1 5 3) ≡ None
  high0 = by_plan leader marks t d 0 (keeping 0 1 5 3) (arena_by leader (table_in table) (terms_of promises) 0) fits0 refl (rw phases refl) (played leader 0)

  pub high1 : check_fault follower marks t d 1 (keeping 1 0 6 2) ≡ None
  high1 = by_plan follower marks t d 1 (keeping 1 0 6 2) (arena_by follower (table_in table) (terms_of promises) 1) fits1 refl (rw phases refl) (played follower 1)

  pub low0 : check_fault leader marks t d 0 (keeping 0 1 3 1) ≡ None
  low0 = by_plan leader marks t d 0 (keeping 0 1 3 1) (arena_by leader (table_in table) (terms_of promises) 0) fits0 refl (rw phases refl) (played leader 0)

  pub low1 : check_fault follower marks t d 1 (keeping 1 0 2 1) ≡ None
  low1 = by_plan follower marks t d 1 (keeping 1 0 2 1) (arena_by follower (table_in table) (terms_of promises) 1) fits1 refl (rw phases refl) (played follower 1)

  -- what is promised and relied on
  pub promised0 : (p x : ℕ) → has width 33 p x ≡ true → promised d 0 p x ≡ true
  promised0 p x e = ap (λ (y : Sides Terms). has width y.first.promise p x) s.dealt.terms ∙ e

  pub promised1 : (p x : ℕ) → has width 18 p x ≡ true → promised d 1 p x ≡ true
  promised1 p x e = ap (λ (y : Sides Terms). has width y.second.promise p x) s.dealt.terms ∙ e

  pub relied0 : (p x : ℕ) → has width 18 p x ≡ true → relied d 0 p x ≡ true
  relied0 p x e = ap (λ (y : Sides Terms). has width y.first.reliance p x) s.dealt.terms ∙ e

  pub relied1 : (p x : ℕ) → has width 33 p x ≡ true → relied d 1 p x ≡ true
  relied1 p x e = ap (λ (y : Sides Terms). has width y.second.reliance p x) s.dealt.terms ∙ e
