-- Phase tables: from the order of faults to the lawful table, and back.
use Rattle.std.proofs.Common.{◌≡◌, ℕ, ◌≤◌, leb, List, length, drop, None, Option, sym}
use Rattle.std.proofs.lemmas.Bool.{leb-true, eqb-true, le-leb, eq-eqb}
use Rattle.reading.specs.Firsts.{unless}
use Rattle.reading.specs.Bytes.{byte, padded}
use Rattle.reading.specs.Sizes.{field_fault}
use Rattle.reading.specs.Faults.{Fault, fault, length_place}
use Rattle.reading.specs.PhaseTables.{Table, table_in, head_fault, phase_fault, Lawful}
use Rattle.reading.proofs.FirstLaws.{none_left, none_right, of_none, none_unless, unless_none}
use Rattle.reading.proofs.EntryLaws.{entries_below, below_entries}
use Rattle.reading.proofs.Ranges.{from_within, to_within}

pub record Ranged (p k0 k1 : ℕ) : Type 0 where
  pub phases : (1 ≤ p) × (p ≤ 8)
  pub signals0 : (1 ≤ k0) × (k0 ≤ 4)
  pub signals1 : (1 ≤ k1) × (k1 ≤ 4)

pub fields_from : (p k0 k1 : ℕ) → None ≡ field_fault p k0 k1 → Ranged p k0 k1
fields_from p k0 k1 n =
    let e = sym n in
    let e1 = none_right _ _ e in
    record {
      phases = from_within 1 8 p (none_unless _ _ (none_left _ _ e));
      signals0 = from_within 1 4 k0 (none_unless _ _ (none_left _ _ e1));
      signals1 = from_within 1 4 k1 (none_unless _ _ (none_right _ _ e1));
    }

pub lawful_from : (xs : List ℕ) → phase_fault xs ≡ None → Lawful xs
lawful_from xs e =
    let short : Option Fault = unless (leb 3 (length xs)) (fault 1 (length_place xs)) in
    let h = none_left (head_fault xs) _ e in
    let r = none_right short _ h in
    let f = fields_from _ _ _ (sym (none_left _ _ r)) in
    record {
      fixed = leb-true 3 _ (none_unless _ _ (none_left short _ h));
      some_phases = f.phases.0;
      few_phases = f.phases.1;
      some0 = f.signals0.0;
      few0 = f.signals0.1;
      some1 = f.signals1.0;
      few1 = f.signals1.1;
      long = eqb-true _ _ (none_unless _ _ (none_right _ _ r));
      entries = entries_below (drop 3 xs) (byte xs 0) 3 (none_right (head_fault xs) _ e);
    }

pub lawful_to : (xs : List ℕ) → Lawful xs → phase_fault xs ≡ None
lawful_to xs w =
    of_none (head_fault xs) _
    (of_none _ _ (unless_none _ _ (le-leb 3 _ w.fixed))
    (of_none _ _
    (of_none _ _ (unless_none _ _ (to_within 1 8 _ w.some_phases w.few_phases))
    (of_none _ _ (unless_none _ _ (to_within 1 4 _ w.some0 w.few0))
    (unless_none _ _ (to_within 1 4 _ w.some1 w.few1))))
    (unless_none _ _ (eq-eqb _ _ w.long))))
    (below_entries (drop 3 xs) (byte xs 0) 3 w.entries)

-- a table whose entries are those of the bytes
abbrev table : ℕ → ℕ → ℕ → List ℕ → Table
table p k0 k1 entries = record { phases = p; signals0 = k0; signals1 = k1; entries = entries }

pub table_with : (xs : List ℕ) (p k0 k1 : ℕ) (entries : List ℕ) → p ≡ byte xs 0 → k0 ≡ byte xs 1 → k1 ≡ byte xs 2
    → entries ≡ padded 128 (drop 3 xs) → table p k0 k1 entries ≡ table_in xs
table_with xs p k0 k1 entries hp h0 h1 e = cc
