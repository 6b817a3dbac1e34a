-- Machine sheets: from the order of faults to the lawful sheet, and back.
use Rattle.std.proofs.Common.{◌≡◌, ℕ, zero, suc, ◌-◌, ◌*◌, ◌<◌, true, ◌||◌, eqb, ltb, leb, List, length, None, Option, inl, inr, arith}
use Rattle.std.proofs.lemmas.Bool.{cases_eq, ltb-true, leb-true, eqb-true, lt-ltb, le-leb, eq-eqb, or_cases, or_left, or_right, and_parts, and_from}
use Rattle.reading.specs.Firsts.{unless}
use Rattle.reading.specs.Faults.{Fault, fault, length_place}
use Rattle.reading.specs.MachineSheets.{key_place, target_place, Sheet, sheet_in, frame_fault, field_fault, head_fault, Ranged, Listed, Lawful, Before, before, key_at, target_at, move_fault, body_fault, machine_fault}
use Rattle.reading.proofs.FirstLaws.{none_left, none_right, of_none, none_unless, unless_none, none_below, below_none}
use Rattle.reading.proofs.EntryLaws.{entries_below, below_entries}
use Rattle.reading.proofs.Ranges.{from_within, to_within}

pub fields_from : (n k m start moves : ℕ) → field_fault n k m start moves ≡ None → Ranged n k m start moves
fields_from n k m start moves e =
    let e0 = none_left (frame_fault n k m start) _ e in
    let e1 = none_right _ _ e0 in
    let e2 = none_right _ _ e1 in
    let hn = from_within 1 256 n (none_unless _ _ (none_left _ _ e0)) in
    let hk = from_within 1 4 k (none_unless _ _ (none_left _ _ e1)) in
    let hm = from_within 1 4 m (none_unless _ _ (none_left _ _ e2)) in
    record {
      some_states = hn.0;
      few_states = hn.1;
      some_own = hk.0;
      few_own = hk.1;
      some_partner = hm.0;
      few_partner = hm.1;
      starts = ltb-true start n (none_unless _ _ (none_right _ _ e2));
      few_moves = leb-true moves 4096 (none_unless _ _ (none_right (frame_fault n k m start) _ e));
    }

fields_to : (n k m start moves : ℕ) → Ranged n k m start moves → field_fault n k m start moves ≡ None
fields_to n k m start moves f =
    of_none (frame_fault n k m start) _
    (of_none _ _ (unless_none _ _ (to_within 1 256 n f.some_states f.few_states))
    (of_none _ _ (unless_none _ _ (to_within 1 4 k f.some_own f.few_own))
    (of_none _ _ (unless_none _ _ (to_within 1 4 m f.some_partner f.few_partner)) (unless_none _ _ (lt-ltb start n f.starts)))))
    (unless_none _ _ (le-leb moves 4096 f.few_moves))

module _ (s : Sheet) where
  pub before_from : (i j : ℕ) → before (key_at s i) (target_at s i) (key_at s j) (target_at s j) ≡ true → Before s i j
  before_from i j e = elim (or_cases _ _ e) [
    | inl h ↦ inl (ltb-true _ _ h)
    | inr h ↦ (let w = and_parts _ _ h in inr (eqb-true _ _ w.0, ltb-true _ _ w.1))
  ]

  before_to : (i j : ℕ) → Before s i j → before (key_at s i) (target_at s i) (key_at s j) (target_at s j) ≡ true
  before_to i j (inl h) = or_left _ _ (lt-ltb _ _ h)
  before_to i j (inr h) = or_right _ _ (and_from _ _ (eq-eqb _ _ h.0) (lt-ltb _ _ h.1))

  before_trans : (i j k : ℕ) → Before s i j → Before s j k → Before s i k
  before_trans i j k (inl h) (inl l) = inl (omega arith)
  before_trans i j k (inl h) (inr l) = inl (omega arith)
  before_trans i j k (inr h) (inl l) = inl (omega arith)
  before_trans i j k (inr h) (inr l) = inr (omega arith, omega arith)

  -- neighbours in order are all in order
  ascends : ((i : ℕ) → suc i < s.moves → Before s i (suc i)) → (i j : ℕ) → i < j → j < s.moves → Before s i j
  ascends h i zero l m = absurd (omega arith)
  ascends h i (suc j) l m = elim (cases_eq i j) [
    | inl q ↦ rw q (h j m)
    | inr q ↦ before_trans i j (suc j) (ascends h i j (omega arith) (omega arith)) (h j m)
  ]

  move_from : (i : ℕ) → move_fault s i ≡ None
      → (key_at s i < s.states * s.own * s.partner) × (target_at s i < s.states) × ((eqb i 0 || before (key_at s (i - 1)) (target_at s (i - 1)) (key_at s i) (target_at s i)) ≡ true)
  move_from i e =
      let k : Option Fault = unless (ltb (key_at s i) (s.states * s.own * s.partner)) (fault 4 (key_place s i)) in
      let t : Option Fault = unless (ltb (target_at s i) s.states) (fault 4 (target_place s i)) in
      let r = none_right k _ e in
      (ltb-true _ _ (none_unless _ _ (none_left k _ e)), ltb-true _ _ (none_unless _ _ (none_left t _ r)), none_unless _ (fault 5 (key_place s i)) (none_right t _ r))

  neighbours : (i : ℕ) → move_fault s (suc i) ≡ None → Before s i (suc i)
  neighbours i e =
      let q : suc i - 1 ≡ i = omega arith in
      let h = rw q at (move_from (suc i) e).2 in
      elim (or_cases (eqb (suc i) 0) _ h) [ inl z ↦ absurd (omega (arith, eqb-true (suc i) 0 z)) | inr b ↦ before_from i (suc i) b ]

  listed_from : body_fault s ≡ None → Listed s
  listed_from e =
      let ms = none_below _ _ (none_right _ _ e) in
      record {
        labels = λ i l. omega (arith, entries_below s.labels 8 8 (none_left _ _ e) i l);
        keys = λ i l. (move_from i (ms i l)).0;
        targets = λ i l. (move_from i (ms i l)).1;
        ascending = ascends (λ i l. neighbours i (ms (suc i) l));
      }

  ordered : Listed s → (i : ℕ) → i < s.moves → (eqb i 0 || before (key_at s (i - 1)) (target_at s (i - 1)) (key_at s i) (target_at s i)) ≡ true
  ordered h i l = elim (cases_eq i 0) [
    | inl q ↦ or_left _ _ (eq-eqb i 0 q)
    | inr q ↦ or_right (eqb i 0) _ (before_to (i - 1) i (h.ascending (i - 1) i (omega arith) l))
  ]

  listed_to : Listed s → body_fault s ≡ None
  listed_to h =
      of_none _ _ (below_entries s.labels 8 8 (λ i l. omega (arith, h.labels i l)))
      (below_none _ _ (λ i l.
      of_none _ _ (unless_none _ _ (lt-ltb _ _ (h.keys i l)))
      (of_none _ _ (unless_none _ _ (lt-ltb _ _ (h.targets i l)))
      (unless_none _ _ (ordered h i l)))))

pub lawful_from : (xs : List ℕ) → machine_fault xs ≡ None → Lawful xs
lawful_from xs e =
    let short : Option Fault = unless (leb 8 (length xs)) (fault 1 (length_place xs)) in
    let h = none_left (head_fault xs) _ e in
    let r = none_right short _ h in
    record {
      fixed = leb-true 8 _ (none_unless _ _ (none_left short _ h));
      fields = fields_from _ _ _ _ _ (none_left _ _ r);
      long = eqb-true _ _ (none_unless _ _ (none_right _ _ r));
      entries = listed_from (sheet_in xs) (none_right (head_fault xs) _ e);
    }

pub lawful_to : (xs : List ℕ) → Lawful xs → machine_fault xs ≡ None
lawful_to xs w =
    of_none (head_fault xs) _
    (of_none _ _ (unless_none _ _ (le-leb 8 _ w.fixed)) (of_none _ _ (fields_to _ _ _ _ _ w.fields) (unless_none _ _ (eq-eqb _ _ w.long))))
    (listed_to (sheet_in xs) w.entries)
