-- Controller records: from the order of faults to the lawful record, and back.
use Rattle.std.proofs.Common.{◌≡◌, ℕ, ◌≤◌, leb, List, length, None, Option, inl, inr}
use Rattle.std.proofs.lemmas.Bool.{ltb-true, leb-true, eqb-true, lt-ltb, le-leb, eq-eqb, or_cases, or_left, or_right}
use Rattle.reading.specs.Firsts.{unless}
use Rattle.reading.specs.Faults.{Fault, fault, length_place}
use Rattle.reading.specs.Records.{field_fault, head_fault, record_fault, Lawful}
use Rattle.reading.proofs.FirstLaws.{none_left, none_right, of_none, none_unless, unless_none, none_below, below_none}
use Rattle.reading.proofs.Ranges.{from_within, to_within}

pub record Ranged (n p k : ℕ) : Type 0 where
  pub states : (1 ≤ n) × (n ≤ 256)
  pub phases : (1 ≤ p) × (p ≤ 8)
  pub signals : (1 ≤ k) × (k ≤ 4)

fields_from : (n p k : ℕ) → field_fault n p k ≡ None → Ranged n p k
fields_from n p k e =
    let e1 = none_right _ _ e in
    record {
      states = from_within 1 256 n (none_unless _ _ (none_left _ _ e));
      phases = from_within 1 8 p (none_unless _ _ (none_left _ _ e1));
      signals = from_within 1 4 k (none_unless _ _ (none_right _ _ e1));
    }

pub lawful_from : (xs : List ℕ) → record_fault xs ≡ None → Lawful xs
lawful_from xs e =
    let short : Option Fault = unless (leb 4 (length xs)) (fault 1 (length_place xs)) in
    let h = none_left (head_fault xs) _ e in
    let r = none_right short _ h in
    let f = fields_from _ _ _ (none_left _ _ r) in
    let cs = none_below _ _ (none_right (head_fault xs) _ e) in
    record {
      fixed = leb-true 4 _ (none_unless _ _ (none_left short _ h));
      some_states = f.states.0;
      few_states = f.states.1;
      some_phases = f.phases.0;
      few_phases = f.phases.1;
      some_signals = f.signals.0;
      few_signals = f.signals.1;
      long = eqb-true _ _ (none_unless _ _ (none_right _ _ r));
      choices = λ i l. elim (or_cases _ _ (none_unless _ _ (cs i l))) [ inl a ↦ inl (ltb-true _ _ a) | inr a ↦ inr (eqb-true _ _ a) ];
    }

pub lawful_to : (xs : List ℕ) → Lawful xs → record_fault xs ≡ None
lawful_to xs w =
    of_none (head_fault xs) _
    (of_none _ _ (unless_none _ _ (le-leb 4 _ w.fixed))
    (of_none _ _
    (of_none _ _ (unless_none _ _ (to_within 1 256 _ w.some_states w.few_states))
    (of_none _ _ (unless_none _ _ (to_within 1 8 _ w.some_phases w.few_phases))
    (unless_none _ _ (to_within 1 4 _ w.some_signals w.few_signals))))
    (unless_none _ _ (eq-eqb _ _ w.long))))
    (below_none _ _ (λ i l. unless_none _ _ (elim (w.choices i l) [ inl a ↦ or_left _ _ (lt-ltb _ _ a) | inr a ↦ or_right _ _ (eq-eqb _ _ a) ])))
