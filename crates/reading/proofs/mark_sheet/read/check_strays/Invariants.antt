use Rattle.std.proofs.Common.{◌≡◌, None}
use Rattle.reading.specs.Firsts.{first_below}
use Rattle.reading.specs.MarkSheets.{stray_fault}
use Rattle.reading.proofs.mark_sheet.read.check_strays.Given as goal

abbrev pub invariant-loop-j : goal.invariant-loop-j
invariant-loop-j l = first_below l.j (stray_fault l.states l.bytes) ≡ None
