use Rattle.checking.proofs.VerdictLaws.{controls_by}
use Rattle.checking.proofs.search.player.Player.controls.Goals as goal

pub returns : goal.returns
returns c = rw c.ranks_start.ensures (controls_by c.args.self.now.snapshot c.args.table.now c.args.deal.now c.args.side c.settle.new.self c.settle.ensures)
