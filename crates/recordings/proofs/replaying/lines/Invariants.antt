use Rattle.std.proofs.Common.{◌≡◌, ◌++◌, map, drop, string_bytes}
use Rattle.cell.specs.Cells.{told}
use Rattle.recordings.specs.Lines.{lines}
use Rattle.recordings.proofs.replaying.lines.Given as goal

abbrev pub invariant-loop-mark : goal.invariant-loop-mark
invariant-loop-mark l = lines l.marks (map told l.initial.rest) ≡ string_bytes l.text ++ lines (drop l.mark-index l.marks) (map told l.rest)
