use Rattle.std.proofs.Common.{ℕ, Ok, ◌-◌, ◌≤◌, List, length, take, drop, sym, ap, ◌∙◌, arith, ltb-false}
use Rattle.std.proofs.lemmas.List.{take_rest}
use Rattle.std.proofs.lemmas.Grind.{common_steps}
use Rattle.reading.proofs.Answering.{decided}
use Rattle.reading.proofs.PhaseLaws.{table_with, lawful_from, lawful_to}
use Rattle.reading.proofs.EntryLaws.{entries_below}
use Rattle.reading.proofs.Padding.{front_of_zeros, closed_from}
use Rattle.reading.specs.Bytes.{padded}
use Rattle.reading.specs.PhaseTables.{phase_fault}
use Rattle.reading.proofs.phase_table.PhaseTable.parse.Goals as goal

pub invariant_of-result : goal.invariant_of-result
invariant_of-result c =
    let xs = c.args.bytes.now in
    let rest : List ℕ = take (length xs - 3) (drop 3 xs) in
    let held = c.put_front.ensures ∙ front_of_zeros 128 rest in
    record { closed = rw c.in_ok-sizes.ensures.value.0 (closed_from 128 _ rest _ held (omega (arith, c.in_ok-sizes.sizes.some_phases, c.in_ok-sizes.ensures.value.0)) (entries_below rest _ 3 (sym c.in_ok-check_entries.ensures))) }

pub returns-clause-value : goal.returns-clause-value
returns-clause-value c =
    let xs = c.args.bytes.now in
    let l : 3 ≤ length xs = omega (arith, ltb-false) in
    let w = c.in_ok-sizes.ensures.value in
    table_with xs _ _ _ _ w.0 w.1 w.2 (c.put_front.ensures ∙ front_of_zeros 128 _ ∙ ap (padded 128) (take_rest xs 3))

pub returns-in_err-check_entries-clause-lawful : goal.returns-in_err-check_entries-clause-lawful
returns-in_err-check_entries-clause-lawful c = decided _ _ (lawful_from c.args.bytes.now) (lawful_to c.args.bytes.now) (grind (arith, common_steps))

pub returns-clause-lawful : goal.returns-clause-lawful
returns-clause-lawful c = decided {A = ℕ} (Ok 0) (phase_fault c.args.bytes.now) (lawful_from c.args.bytes.now) (lawful_to c.args.bytes.now) (grind (arith, common_steps))
