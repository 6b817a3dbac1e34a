use Rattle.std.proofs.Common.{rules}
use Rattle.cell.proofs.PlaceLaws.{rank_read}
use Rattle.cell.proofs.records.rank_in.Goals as goal

pub returns-then-has : goal.returns-then-has
returns-then-has c = let h = rank_read c.args.bytes.now c.args.at.state c.args.at.phase (search rules) in search (rules, h)
