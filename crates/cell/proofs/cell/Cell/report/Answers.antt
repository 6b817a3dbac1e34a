use Rattle.std.proofs.Common.{sym}
use Rattle.std.proofs.lemmas.Result.{err_from_is_err_and}
use Rattle.cell.proofs.CallLaws.{idle_refused, running_refused, running_moved}
use Rattle.cell.proofs.cell.Cell.report.Goals as goal

pub returns-in_err-check_moves-in-Running-default-clause-heard : goal.returns-in_err-check_moves-in-Running-default-clause-heard
returns-in_err-check_moves-in-Running-default-clause-heard g c =
    let p = err_from_is_err_and c.from_residual.result c.from_residual.ensures.1 in
    rw (p.1, p.2) (running_refused _ _ _ _ c.args.self.now c.args.report.states c.in-Running-default.is-0 _ (sym c.in_err-check_moves-in-Running-default.ensures))

pub returns-in-Idle-default-clause-heard : goal.returns-in-Idle-default-clause-heard
returns-in-Idle-default-clause-heard g c = idle_refused _ _ _ _ c.args.self.now c.args.report.states c.in-Idle-default.is-0

pub returns-in_ok-check_moves-in-Running-default-clause-heard : goal.returns-in_ok-check_moves-in-Running-default-clause-heard
returns-in_ok-check_moves-in-Running-default-clause-heard g c =
    running_moved _ _ _ _ c.args.self.now c.args.report.states c.in-Running-default.is-0 c.advance.new.self _ c.signals.result (sym c.in_ok-check_moves-in-Running-default.ensures) c.goal.ensures c.goal-in-Running-default.ensures c.advance.ensures c.signals.ensures
