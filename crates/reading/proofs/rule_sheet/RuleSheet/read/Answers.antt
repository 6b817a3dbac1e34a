use Rattle.std.proofs.Common.{ℕ, Ok, arith, ◌-◌, ◌≤◌, List, length, take, drop, sym, ap, ◌∙◌, ltb-false}
use Rattle.std.proofs.lemmas.List.{take_rest}
use Rattle.reading.specs.Bytes.{padded}
use Rattle.std.proofs.lemmas.Grind.{common_steps}
use Rattle.reading.specs.RuleSheets.{rule_fault}
use Rattle.reading.proofs.Answering.{decided}
use Rattle.reading.proofs.Padding.{front_of_zeros, closed_from}
use Rattle.reading.proofs.EntryLaws.{entries_below}
use Rattle.reading.proofs.RuleLaws.{fields_from, automaton_with, lawful_from, lawful_to}
use Rattle.reading.proofs.rule_sheet.RuleSheet.read.Goals as goal

pub returns-in_err-check_fields-clause-lawful : goal.returns-in_err-check_fields-clause-lawful
returns-in_err-check_fields-clause-lawful c = decided _ _ (lawful_from c.args.states c.args.bytes.now) (lawful_to c.args.states c.args.bytes.now (c.type_inv.bytes 1).fits) (grind (arith, common_steps))

pub returns-in_err-check_entries-clause-lawful : goal.returns-in_err-check_entries-clause-lawful
returns-in_err-check_entries-clause-lawful c = decided _ _ (lawful_from c.args.states c.args.bytes.now) (lawful_to c.args.states c.args.bytes.now (c.type_inv.bytes 1).fits) (grind (arith, common_steps))

pub returns-clause-lawful : goal.returns-clause-lawful
returns-clause-lawful c = decided {A = ℕ} (Ok 0) (rule_fault c.args.states c.args.bytes.now) (lawful_from c.args.states c.args.bytes.now) (lawful_to c.args.states c.args.bytes.now (c.type_inv.bytes 1).fits) (grind (arith, common_steps))

pub invariant_of-result : goal.invariant_of-result
invariant_of-result c =
    let xs = c.args.bytes.now in
    let rest : List ℕ = take (length xs - 4) (drop 4 xs) in
    let f = fields_from _ _ _ c.in_ok-check_fields.ensures in
    let held = c.put_front.ensures ∙ front_of_zeros 64 rest in
    record {
      some_states = f.states.0;
      few_states = f.states.1;
      accepts = f.accepts;
      starts = f.starts;
      closed = closed_from 64 _ rest _ held f.states.0 (entries_below rest _ 4 (sym c.in_ok-check_entries.ensures));
    }

pub returns-clause-value : goal.returns-clause-value
returns-clause-value c =
    let xs = c.args.bytes.now in
    let l : 4 ≤ length xs = omega (arith, ltb-false) in
    automaton_with xs _ (c.put_front.ensures ∙ front_of_zeros 64 _ ∙ ap (padded 64) (take_rest xs 4))
