-- The product of a lawful machine with an automaton.
use Rattle.std.specs.Prelude.{◌≡◌, ℕ, ◌+◌, ◌*◌, ◌/◌, ◌%◌, ◌<◌, ◌≤◌, Bool, true, false, cond, ◌&&◌, List, [], ◌∷◌, ◌==◌, nat_le, nat_lt, refl}
use Rattle.std.proofs.Common.{◌∙◌, ap, subst, mul_comm, arith}
use Rattle.std.proofs.lemmas.Nat.{mul-le, mul-add-lt, div-mul-add, mod-mul-add, div-add-mod', le-div, mod_below}
use Rattle.std.proofs.lemmas.Bool.{and_parts, and_from, eqb-true, eq-eqb, cond-true, cond_both, leb-true, le-leb}
use Rattle.reading.specs.Limits.{AllBelow}
use Rattle.reading.specs.RuleSheets.{Automaton, next_state, blank}
use Rattle.reading.proofs.Padding.{zeros_below}
use Rattle.games.specs.Machines.{Model, Lawful}
use Rattle.games.specs.Layers.{product, watched}
use Rattle.games.specs.Runs.{Tick, Run, read_on, paired, Paired}

-- what every rule sheet's automaton has
pub record Sound (a : Automaton) : Type 0 where
  pub some_states : 1 ≤ a.states
  pub few_states : a.states ≤ 8
  pub starts : a.start < a.states
  pub closed : AllBelow a.states a.next

-- the blank automaton has them
pub blank_sound : Sound blank
blank_sound = record { some_states = omega arith; few_states = omega arith; starts = omega arith; closed = zeros_below 64 1 (omega arith) }

-- a next state is a state
next_below : (a : Automaton) → Sound a → (q l : ℕ) → next_state a q l < a.states
next_below a w q l = cond_both (nat_lt q a.states && nat_lt l 8) _ 0 (λ x. x < a.states) (λ e. w.closed (8 * q + l)) (λ e. omega (arith, w.some_states))

module _ (m : Model) (a : Automaton) (w : Lawful m) (u : Sound a) where
  -- a product that is small enough is a lawful machine
  product_lawful : m.states * a.states ≤ 256 → Lawful (product m a)
  product_lawful small = record {
    some_states = mul-le 1 1 m.states a.states w.some_states u.some_states;
    few_states = small;
    some_own = w.some_own;
    few_own = w.few_own;
    some_partner = w.some_partner;
    few_partner = w.few_partner;
    starts = inside m.start _ w.starts (next_below a u _ _);
    labels = λ s. w.labels (s / a.states);
    unlabelled = λ s h. w.unlabelled (s / a.states) (le-div m.states s a.states u.some_states h);
    inside = λ s x b t e. (let h = w.inside _ x b _ (and_parts _ _ e).0 in (whole s h.0, h.1, h.2, whole t h.3));
  }
    where
      inside : (s q : ℕ) → s < m.states → q < a.states → s * a.states + q < m.states * a.states
      inside s q hs hq = omega (arith, mul-add-lt s a.states q m.states hs hq, mul_comm m.states a.states)

      whole : (s : ℕ) → s / a.states < m.states → s < m.states * a.states
      whole s h = omega (arith, inside (s / a.states) (s % a.states) h (mod_below s a.states u.some_states), div-add-mod' s a.states)

-- a watched machine is lawful
pub watched_lawful : (m : Model) (a : Automaton) → Lawful m → Sound a → Lawful (watched m a)
watched_lawful m a w u = go (nat_le (m.states * a.states) 256) refl
  where
    go : (b : Bool) → nat_le (m.states * a.states) 256 ≡ b → Lawful (product m (cond b a blank))
    go true e = product_lawful m a w u (leb-true _ _ e)
    go false e = product_lawful m blank w blank_sound (omega (arith, w.few_states))

-- where the product is small enough, the machine is watched by the automaton itself
pub watched_whole : (m : Model) (a : Automaton) → m.states * a.states ≤ 256 → watched m a ≡ product m a
watched_whole m a small = ap (product m) (cond-true _ a blank (le-leb _ _ small))

module _ (m : Model) (a : Automaton) (u : Sound a) where
  product_move : (s q x b t r : ℕ) → q < a.states → r < a.states
      → (product m a).move (s * a.states + q) x b (t * a.states + r) ≡ (m.move s x b t && r == next_state a q (m.label t))
  product_move s q x b t r hq hr =
      rw (div-mul-add s a.states q hq, div-mul-add t a.states r hr, mod-mul-add s a.states q hq, mod-mul-add t a.states r hr) refl

  each : (s q : ℕ) (xs : List Tick) → q < a.states → Run m s xs → Run (product m a) (s * a.states + q) (paired m a q xs)
  each s q [] h r = tt
  each s q (x ∷ xs) h r =
      let l = next_below a u q (m.label x.next) in (
        product_move s q x.own x.partner x.next (read_on m a q x) h l ∙ and_from _ _ r.0 (eq-eqb _ _ refl),
        each x.next (read_on m a q x) xs l r.1,
      )

  -- a move of the product is a move below, and the automaton reads the label of the state entered
  parts : (s q x b t : ℕ) → q < a.states → (product m a).move (s * a.states + q) x b t ≡ true
      → (m.move s x b (t / a.states) ≡ true) × (t ≡ t / a.states * a.states + next_state a q (m.label (t / a.states)))
  parts s q x b t h e =
      let f : (m.move s x b (t / a.states) && t % a.states == next_state a q (m.label (t / a.states))) ≡ true = rw (div-mul-add s a.states q h, mod-mul-add s a.states q h) at e in
      let g = and_parts _ _ f in
      (g.0, omega (arith, eqb-true _ _ g.1, div-add-mod' t a.states))

  only : (s q : ℕ) (ys : List Tick) → q < a.states → Run (product m a) (s * a.states + q) ys → (xs : List Tick) × Run m s xs × (ys ≡ paired m a q xs)
  only s q [] h r = ([], tt, refl)
  only s q (y ∷ ys) h r =
      let t : ℕ = y.next / a.states in
      let q' : ℕ = next_state a q (m.label t) in
      let p = parts s q y.own y.partner y.next h r.0 in
      let rest : Run (product m a) (t * a.states + q') ys = subst (λ (z : ℕ). Run (product m a) z ys) p.1 r.1 in
      let w = only t q' ys (next_below a u q (m.label t)) rest in
      (record { own = y.own; partner = y.partner; next = t } ∷ w.0, (p.0, w.1), together y ys _ _ p.1 w.2)
    where
      together : (y : Tick) (ys zs : List Tick) (n : ℕ) → y.next ≡ n → ys ≡ zs → ◌≡◌ {A = List Tick} (y ∷ ys) (record { own = y.own; partner = y.partner; next = n } ∷ zs)
      together y ys zs n e f = ap (λ (k : ℕ). record { own = y.own; partner = y.partner; next = k } ∷ ys) e ∙ ap (λ (l : List Tick). record { own = y.own; partner = y.partner; next = n } ∷ l) f

  pub pairs : Paired m a
  pairs = record { each = each; only = only }
