use Rattle.std.proofs.lemmas.Result.{err_from_is_err_and}
use Rattle.reading.proofs.FirstLaws.{stopped}
use Rattle.reading.proofs.machine_sheet.MachineSheet.check_moves.Goals as goal

pub returns-in_err-check_move : goal.returns-in_err-check_move
returns-in_err-check_move c =
    let p = err_from_is_err_and c.from_residual.result c.from_residual.ensures.1 in
    rw (p.1, p.2) (stopped _ _ c.loop-i.i c.loop-i-test.true c.loop-i.invariant c.in_err-check_move.ensures)
