use Rattle.std.proofs.Common.{refl, rules}
use Rattle.cell.specs.Logs.{run}
use Rattle.cell.proofs.cell.Cell.within.Goals as goal

pub returns : goal.returns
unfolding run
returns g c = record { first_game = refl; second_game = refl; tells = record { same = search rules; good = (record { start = search rules; fresh = search rules; none = search rules }, record { start = search rules; fresh = search rules; none = search rules }) } }
