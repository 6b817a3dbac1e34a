-- What the definition of reached positions says of a machine with one move: from state 0 to state 1, under signal 0 of both sides.
use Rattle.std.proofs.Common.{◌≡◌, ℕ, true, false, ◌&&◌, eqb, refl}
use Rattle.std.proofs.lemmas.Bool.{both_ways, and_parts, eqb-true}
use Rattle.reading.specs.declared.phase_table.PhaseTable.{PhaseTable}
use Rattle.games.specs.declared.deal.Deal.{Deal}
use Rattle.games.specs.Machines.{Model}
use Rattle.checking.specs.Arenas.{promised, relied, follow}
use Rattle.checking.specs.Reach.Reached.{start, step}
use Rattle.checking.specs.Reach.{Reached}

abbrev walk : Model
walk = record {
  states = 2;
  own = 1;
  partner = 1;
  start = 0;
  label = λ s. 0;
  move = λ s x b s'. (eqb s 0 && eqb s' 1) && (eqb x 0 && eqb b 0);
}

module _ (t : PhaseTable) (d : Deal) (side : ℕ) where
  -- where signal 0 is promised and relied on, state 1 is reached, in the phase that follows phase 0
  there : promised d side 0 0 ≡ true → relied d side 0 0 ≡ true → Reached walk t d side 1 (follow t side 0 0 0)
  there hx hb = step 0 0 0 0 1 start hx hb refl

  -- where it is not promised, nothing but the start is
  alone : promised d side 0 0 ≡ false → (s p : ℕ) → Reached walk t d side s p → (s ≡ 0) × (p ≡ 0)
  alone never s p start = (refl, refl)
  alone never s p (step s₀ p₀ x b s' r hx hb e) =
      let h = alone never s₀ p₀ r in
      let zero : x ≡ 0 = eqb-true x 0 (and_parts _ _ (and_parts _ _ e).1).0 in
      absurd (both_ways _ never (rw (h.1, zero) at hx))
