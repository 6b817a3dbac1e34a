use Rattle.std.proofs.Common.{rules}
use Rattle.cell.proofs.PlaceLaws.{choice_read}
use Rattle.cell.proofs.records.choice_in.Goals as goal

pub returns-then-has : goal.returns-then-has
returns-then-has c = let h = choice_read c.args.bytes.now c.args.at.state c.args.at.phase (search rules) in search (rules, h)
