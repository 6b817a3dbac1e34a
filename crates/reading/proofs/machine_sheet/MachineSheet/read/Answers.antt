use Rattle.std.proofs.Common.{ℕ, Ok, rules, arith}
use Rattle.std.proofs.lemmas.Grind.{common_steps}
use Rattle.reading.specs.MachineSheets.{machine_fault}
use Rattle.reading.proofs.Answering.{decided}
use Rattle.reading.proofs.MachineLaws.{lawful_from, lawful_to}
use Rattle.reading.proofs.machine_sheet.MachineSheet.read.Goals as goal

pub returns-in_err-check_entries-clause-lawful : goal.returns-in_err-check_entries-clause-lawful
returns-in_err-check_entries-clause-lawful c = decided _ _ (lawful_from c.args.bytes.now) (lawful_to c.args.bytes.now) (search rules)

pub returns-in_err-check_moves-clause-lawful : goal.returns-in_err-check_moves-clause-lawful
returns-in_err-check_moves-clause-lawful c = decided _ _ (lawful_from c.args.bytes.now) (lawful_to c.args.bytes.now) (search rules)

pub returns-clause-lawful : goal.returns-clause-lawful
returns-clause-lawful c = decided {A = ℕ} (Ok 0) (machine_fault c.args.bytes.now) (lawful_from c.args.bytes.now) (lawful_to c.args.bytes.now) (grind (arith, common_steps))
