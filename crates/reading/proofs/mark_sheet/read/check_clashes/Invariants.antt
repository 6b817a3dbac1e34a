use Rattle.std.proofs.Common.{◌≡◌, None}
use Rattle.reading.specs.Firsts.{first_below}
use Rattle.reading.specs.MarkSheets.{clash_fault}
use Rattle.reading.proofs.mark_sheet.read.check_clashes.Given as goal

abbrev pub invariant-loop-j : goal.invariant-loop-j
invariant-loop-j l = first_below l.j (clash_fault l.forbidden l.goals) ≡ None
