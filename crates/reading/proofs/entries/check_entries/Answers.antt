use Rattle.std.proofs.Common.{rules}
use Rattle.reading.proofs.FirstLaws.{stopped}
use Rattle.reading.proofs.entries.check_entries.Goals as goal

pub returns-in_err-check : goal.returns-in_err-check
returns-in_err-check c = search (rules, stopped)
