-- From a bay that was read and the search over its games to what is negotiated.
use Rattle.std.proofs.Common.{◌≡◌, ℕ, true, List, length, None, Ok, Err, Result, IsOk, refl, sym, ap, ◌∙◌, subst, inl, inr, ◌≤◌, mul-le-mul, rules, arith}
use Rattle.std.proofs.lemmas.Bool.{and_parts, eqb-true}
use Rattle.reading.specs.Sides.{both, pick}
use Rattle.reading.specs.RuleSheets.{Automaton, automaton_of}
use Rattle.reading.specs.declared.phase_table.PhaseTable.{PhaseTable}
use Rattle.reading.specs.declared.sides.Sides.{Sides}
use Rattle.reading.specs.declared.sizes.Sizes.{Sizes}
use Rattle.reading.proofs.FirstLaws.{not_some, none_left, none_unless}
use Rattle.games.specs.declared.deal.Deal.{Deal}
use Rattle.games.specs.Machines.{Model, Marks, Lawful}
use Rattle.games.specs.SheetMachines.{machine_of}
use Rattle.games.specs.Layers.{watched, watch_marks}
use Rattle.checking.specs.declared.faults.SolveFault.{SolveFault}
use Rattle.checking.specs.declared.faults.SearchFault.{SearchFault}
use Rattle.checking.specs.declared.search.Agreement.{Agreement}
use Rattle.checking.specs.Arenas.{arena, suits}
use Rattle.checking.specs.Controllers.{Controlled}
use Rattle.checking.specs.Solutions.{Solves, record_size}
use Rattle.checking.specs.Searching.{meet, search_head, Searches}
use Rattle.checking.proofs.CheckLaws.{suits_from, suits_to}
use Rattle.checking.proofs.SolveLaws.{head_none}
use Rattle.bays.specs.declared.bay.Bay.{Bay}
use Rattle.bays.specs.Inputs.{Parts}
use Rattle.bays.specs.Bays.{Holds}
use Rattle.negotiation.specs.declared.negotiator.Settlement.{Settlement}
use Rattle.negotiation.specs.Negotiations.{Reached, Settled, Settles, SheetsSettle}

-- solving succeeds where sizes fit and there is a controller
pub solves : (m : Model) (k : Marks) (t : PhaseTable) (d : Deal) (side : ℕ) (old new : List ℕ) (r : Result ℕ SolveFault) → Solves m k t d side old new r →
    suits m t d side ≡ true → length old ≡ record_size m.states t.sizes.phases → Controlled (arena m k t d side) → IsOk r
solves m k t d side old new (Ok b) s h e y = search rules
solves m k t d side old new (Err f) s h e y = elim s.1 [
  | inl q ↦ absurd (not_some (sym q ∙ head_none m k t d side (length old) (suits_from m t d side h) e))
  | inr q ↦ absurd (q.2 y)
]

-- a record has room in the longest
pub record_fits : (m : Model) (t : PhaseTable) → Lawful m → record_size m.states t.sizes.phases ≤ 6148
record_fits m t w = omega (arith, mul-le-mul w.few_states t.sizes.few_phases)

-- games that meet a table suit each deal of its sizes
module _ (m : Sides Model) (t : PhaseTable) (d : Deal) (n : ℕ) (head : search_head m t.sizes n ≡ None) (same : d.sizes ≡ t.sizes) where
  met : meet m t.sizes ≡ true
  met = none_unless _ _ (none_left _ _ head)

  -- either side's game, by its signals
  side_suits : (x : Model) (side : ℕ) → side ≤ 1 → x.own ≡ pick side t.sizes.signals.first t.sizes.signals.second → x.partner ≡ pick side t.sizes.signals.second t.sizes.signals.first
      → suits x t d side ≡ true
  side_suits x side l own partner = suits_to x t d side (record {
    there = l;
    phases = ap (λ (z : Sizes). z.phases) (sym same);
    signals0 = ap (λ (z : Sizes). z.signals.first) (sym same);
    signals1 = ap (λ (z : Sizes). z.signals.second) (sym same);
    own = own;
    partner = partner;
  })

  pub first_suits : suits m.first t d 0 ≡ true
  first_suits =
      let h = and_parts _ _ met in
      side_suits m.first 0 (omega arith) (eqb-true _ _ h.0) (eqb-true _ _ (and_parts _ _ h.1).0)

  pub second_suits : suits m.second t d 1 ≡ true
  second_suits =
      let one : 1 ≤ 1 = omega arith in
      let h = and_parts _ _ (and_parts _ _ (and_parts _ _ met).1).1 in
      side_suits m.second 1 one (eqb-true _ _ h.0) (eqb-true _ _ h.1)

-- what holds of a bay's games holds of the machines and automata of its sheets
of_sheets : (F : Sides Model → Sides Marks → Type 0) (m0 m1 n0 n1 : Model) (a0 a1 b0 b1 : Automaton) → m0 ≡ n0 → m1 ≡ n1 → a0 ≡ b0 → a1 ≡ b1 →
    F (both (watched m0 a0) (watched m1 a1)) (both (watch_marks m0 a0) (watch_marks m1 a1)) → F (both (watched n0 b0) (watched n1 b1)) (both (watch_marks n0 b0) (watch_marks n1 b1))
of_sheets F m0 m1 n0 n1 a0 a1 b0 b1 e f g h x =
    subst (λ (m : Model). F (both (watched m b0) (watched n1 b1)) (both (watch_marks m b0) (watch_marks n1 b1))) e
    (subst (λ (m : Model). F (both (watched m0 b0) (watched m b1)) (both (watch_marks m0 b0) (watch_marks m b1))) f
    (subst (λ (a : Automaton). F (both (watched m0 a) (watched m1 b1)) (both (watch_marks m0 a) (watch_marks m1 b1))) g
    (subst (λ (a : Automaton). F (both (watched m0 a0) (watched m1 a)) (both (watch_marks m0 a0) (watch_marks m1 a))) h x)))

pub sheets_settle : (p : Parts) (b : Bay) (r : Result Settlement SearchFault) → Holds p b →
    Settles (both (watched (machine_of b.games.first.below) (automaton_of b.games.first.rule)) (watched (machine_of b.games.second.below) (automaton_of b.games.second.rule)))
    (both (watch_marks (machine_of b.games.first.below) (automaton_of b.games.first.rule)) (watch_marks (machine_of b.games.second.below) (automaton_of b.games.second.rule))) b.table r →
    SheetsSettle p r
sheets_settle p b r h x = record {
  table = b.table;
  read = h.table;
  settles = of_sheets (λ m k. Settles m k b.table r) _ _ _ _ _ _ _ _ h.first.machine h.second.machine h.first.rule h.second.rule x;
}

-- a settlement on the deal that the search answers
pub settled : (m : Sides Model) (k : Sides Marks) (t : PhaseTable) (a : Agreement) (p q x y : ℕ) → Searches m k t 65535 (Ok a) → p ≡ a.deal.terms.first.promise → q ≡ a.deal.terms.second.promise →
    Reached m.first k.first t a.deal 0 x → Reached m.second k.second t a.deal 1 y → Settled m k t (record { promises = both p q; tries = a.tries; bounds = both x y })
settled m k t a p q x y s e f g h = record { agreement = a; searched = s; promises = rw (e, f) refl; tries = refl; first = g; second = h }
