use Rattle.std.proofs.Common.{◌≡◌, None}
use Rattle.reading.specs.Firsts.{first_below}
use Rattle.reading.specs.MachineSheets.{sheet_of, move_fault}
use Rattle.reading.proofs.machine_sheet.MachineSheet.check_moves.Given as goal

abbrev pub invariant-loop-i : goal.invariant-loop-i
invariant-loop-i l = first_below l.i (move_fault (sheet_of l.self)) ≡ None
