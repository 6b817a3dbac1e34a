use Rattle.std.proofs.Common.{rules, ◌≡◌, ℕ, ◌<◌, ◌≤◌, length, vec_items, refl, sym, subst, inl, inr, arith}
use Rattle.std.proofs.lemmas.Bool.{cases_lt}
use Rattle.std.proofs.lemmas.List.{get_or_past}
use Rattle.reading.specs.Bytes.{byte}
use Rattle.reading.specs.MachineSheets.{Sheet, Before, sheet_of}
use Rattle.games.proofs.SearchLaws.{ascending_moves}
use Rattle.games.proofs.sheet_machine.SheetMachine.load.Goals as goal

pub invariant_of-self-clause-ascending : goal.invariant_of-self-clause-ascending
invariant_of-self-clause-ascending c =
    let w = c.in_ok-sheet.ensures in
    let h : (i j : ℕ) → i < j → j < (sheet_of c.in_ok-sheet.sheet).moves → Before (sheet_of c.in_ok-sheet.sheet) i j =
    subst (λ (s : Sheet). (i j : ℕ) → i < j → j < s.moves → Before s i j) (sym w.value) (w.lawful.0 refl).entries.ascending in
    ascending_moves (sheet_of c.in_ok-sheet.sheet) h _ c.copy_moves.ensures.items

pub invariant_of-self-clause-labels_low : goal.invariant_of-self-clause-labels_low
invariant_of-self-clause-labels_low c =
    let w = c.in_ok-sheet.ensures in
    let s = sheet_of c.in_ok-sheet.sheet in
    let h : (i : ℕ) → i < length s.labels → byte s.labels i ≤ 7 = subst (λ (s : Sheet). (i : ℕ) → i < length s.labels → byte s.labels i ≤ 7) (sym w.value) (w.lawful.0 refl).entries.labels in
    let held : vec_items c.copy_labels.new.labels ≡ s.labels = search rules in
    rw held (λ i. elim (cases_lt i (length s.labels)) [ inl l ↦ omega (arith, h i l) | inr l ↦ omega (arith, get_or_past s.labels i 0 l) ])
