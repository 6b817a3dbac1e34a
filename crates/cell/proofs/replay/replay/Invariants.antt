use Rattle.std.proofs.Common.{◌≡◌, take, drop, map, length}
use Rattle.cell.specs.Cells.{event, told}
use Rattle.cell.proofs.ReplayLaws.{Going}
use Rattle.cell.proofs.replay.replay.Given as goal

abbrev pub invariant-loop-i : goal.invariant-loop-i
invariant-loop-i g l =
    Going g.A.Machine.meaning g.A.Game.marks g.B.Machine.meaning g.B.Game.marks l.fn.first l.fn.second (take l.i (map event l.calls)) (map told (take l.i l.answers)) l.cell
    × ((drop l.i l.answers ≡ drop l.i l.initial.answers) × (length l.answers ≡ length l.initial.answers))
