use Rattle.std.proofs.Common.{ℕ, Ok, arith}
use Rattle.std.proofs.lemmas.Grind.{common_steps}
use Rattle.reading.specs.Records.{record_fault}
use Rattle.reading.proofs.Answering.{decided}
use Rattle.reading.proofs.RecordLaws.{lawful_from, lawful_to}
use Rattle.reading.proofs.records.Record.read.Goals as goal

pub returns-in_err-check_choices-clause-lawful : goal.returns-in_err-check_choices-clause-lawful
returns-in_err-check_choices-clause-lawful c = decided _ _ (lawful_from c.args.bytes.now) (lawful_to c.args.bytes.now) (grind (arith, common_steps))

pub returns-clause-lawful : goal.returns-clause-lawful
returns-clause-lawful c = decided {A = ℕ} (Ok 0) (record_fault c.args.bytes.now) (lawful_from c.args.bytes.now) (lawful_to c.args.bytes.now) (grind (arith, common_steps))
