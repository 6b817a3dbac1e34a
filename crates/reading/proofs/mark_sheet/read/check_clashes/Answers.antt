use Rattle.std.proofs.Common.{rules}
use Rattle.std.proofs.lemmas.Result.{err_from_is_err_and}
use Rattle.reading.proofs.FirstLaws.{stopped}
use Rattle.reading.proofs.mark_sheet.read.check_clashes.Goals as goal

pub returns-in_err-check : goal.returns-in_err-check
returns-in_err-check c =
    let p = err_from_is_err_and c.from_residual.result c.from_residual.ensures.1 in
    rw (p.1, p.2) (stopped _ _ c.loop-j.j c.loop-j-test.true c.loop-j.invariant (search rules))
