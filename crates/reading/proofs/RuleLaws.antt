-- Rule sheets: from the order of faults to the lawful sheet, and back.
use Rattle.std.proofs.Common.{◌≡◌, ℕ, ◌^◌, ◌<◌, ◌≤◌, leb, List, length, drop, None, Option, sym, ap}
use Rattle.std.proofs.lemmas.Bool.{ltb-true, leb-true, eqb-true, lt-ltb, le-leb, eq-eqb}
use Rattle.reading.specs.Firsts.{first_below, unless}
use Rattle.reading.specs.Bytes.{byte, padded}
use Rattle.reading.specs.Faults.{Fault, fault, length_place, entry_fault}
use Rattle.reading.specs.RuleSheets.{Automaton, automaton_in, field_fault, head_fault, rule_fault, Lawful}
use Rattle.reading.proofs.FirstLaws.{none_left, none_right, of_none, none_unless, unless_none}
use Rattle.reading.proofs.EntryLaws.{entries_below, below_entries}
use Rattle.reading.proofs.Ranges.{from_within, to_within}
use Rattle.reading.proofs.Bits.{bit_below, bits_below}

pub record Ranged (q accepting start : ℕ) : Type 0 where
  pub states : (1 ≤ q) × (q ≤ 8)
  pub accepts : accepting < 2 ^ q
  pub starts : start < q

pub fields_from : (q accepting start : ℕ) → None ≡ field_fault q accepting start → Ranged q accepting start
fields_from q accepting start n =
    let e = sym n in
    let e1 = none_right _ _ e in
    record {
      states = from_within 1 8 q (none_unless _ _ (none_left _ _ e));
      accepts = ltb-true _ _ (none_unless _ _ (none_left _ _ e1));
      starts = ltb-true _ _ (none_unless _ _ (none_right _ _ e1));
    }

-- an automaton whose next states are those of the bytes
abbrev automaton : ℕ → ℕ → ℕ → ℕ → List ℕ → Automaton
automaton q accepting forbidden start next = record { states = q; accepting = accepting; forbidden = forbidden; start = start; next = next }

pub automaton_with : (xs next : List ℕ) → next ≡ padded 64 (drop 4 xs) → automaton (byte xs 0) (byte xs 1) (byte xs 2) (byte xs 3) next ≡ automaton_in xs
automaton_with xs next e = ap (automaton (byte xs 0) (byte xs 1) (byte xs 2) (byte xs 3)) e

module _ (n : ℕ) (xs : List ℕ) where
  pub lawful_from : rule_fault n xs ≡ None → Lawful n xs
  lawful_from e =
      let short : Option Fault = unless (leb 4 (length xs)) (fault 1 (length_place xs)) in
      let rows : Option Fault = first_below (length (drop 4 xs)) (entry_fault (drop 4 xs) (byte xs 0) 4) in
      let h = none_left (head_fault xs) _ e in
      let t = none_right (head_fault xs) _ e in
      let r = none_right short _ h in
      let f = fields_from _ _ _ (sym (none_left _ _ r)) in
      record {
        fixed = leb-true 4 _ (none_unless _ _ (none_left short _ h));
        some_states = f.states.0;
        few_states = f.states.1;
        accepting = λ j b. bit_below (byte xs 1) (byte xs 0) j f.accepts b;
        starts = f.starts;
        long = eqb-true _ _ (none_unless _ _ (none_right _ _ r));
        next = entries_below (drop 4 xs) (byte xs 0) 4 (none_left rows _ t);
        small = leb-true _ _ (none_unless _ _ (none_right rows _ t));
      }

  pub lawful_to : byte xs 1 < 256 → Lawful n xs → rule_fault n xs ≡ None
  lawful_to small w =
      of_none (head_fault xs) _
      (of_none _ _ (unless_none _ _ (le-leb 4 _ w.fixed))
      (of_none _ _
      (of_none _ _ (unless_none _ _ (to_within 1 8 _ w.some_states w.few_states))
      (of_none _ _ (unless_none _ _ (lt-ltb _ _ (bits_below (byte xs 1) (byte xs 0) small w.accepting)))
      (unless_none _ _ (lt-ltb _ _ w.starts))))
      (unless_none _ _ (eq-eqb _ _ w.long))))
      (of_none _ _ (below_entries (drop 4 xs) (byte xs 0) 4 w.next) (unless_none _ _ (le-leb _ _ w.small)))
