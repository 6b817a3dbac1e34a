use Rattle.std.proofs.Common.{sym}
use Rattle.std.proofs.lemmas.Result.{err_from_is_err_and}
use Rattle.cell.specs.Cells.{offering}
use Rattle.cell.proofs.OfferLaws.{short_enough, first_refused, second_refused, change_refused, taken_idle, taken_running, refused_exactly, accepted_exactly}
use Rattle.cell.proofs.cell.Cell.offer.Goals as goal

pub returns-in_err-check_record-clause-heard : goal.returns-in_err-check_record-clause-heard
returns-in_err-check_record-clause-heard g c =
    let p = err_from_is_err_and c.from_residual.result c.from_residual.ensures.1 in
    rw (p.1, p.2) (first_refused _ _ _ _ c.args.self.now (offering c.args.offer) _ (sym c.in_err-check_record.ensures.first))

pub returns-in_err-check_record-2-clause-heard : goal.returns-in_err-check_record-2-clause-heard
returns-in_err-check_record-2-clause-heard g c =
    let p = err_from_is_err_and c.from_residual-in_err-check_record-2.result c.from_residual-in_err-check_record-2.ensures.1 in
    rw (p.1, p.2) (second_refused _ _ _ _ c.args.self.now (offering c.args.offer) (sym c.in_ok-check_record.ensures.first) _ (sym c.in_err-check_record-2.ensures.first))

pub take-requires-clause-first : goal.take-requires-clause-first
take-requires-clause-first g c = short_enough _ _ (offering c.args.offer) 0 c.in_ok-check_record.field-0 c.in_ok-check_record.ensures.passed

pub take-requires-clause-second : goal.take-requires-clause-second
take-requires-clause-second g c = short_enough _ _ (offering c.args.offer) 1 c.in_ok-check_record-2.field-0 c.in_ok-check_record-2.ensures.passed

pub take-requires-in-Running-default-clause-first : goal.take-requires-in-Running-default-clause-first
take-requires-in-Running-default-clause-first g c = short_enough _ _ (offering c.args.offer) 0 c.in_ok-check_record.field-0 c.in_ok-check_record.ensures.passed

pub take-requires-in-Running-default-clause-second : goal.take-requires-in-Running-default-clause-second
take-requires-in-Running-default-clause-second g c = short_enough _ _ (offering c.args.offer) 1 c.in_ok-check_record-2.field-0 c.in_ok-check_record-2.ensures.passed

pub returns-in_err-check_changes-in-Running-default-clause-heard : goal.returns-in_err-check_changes-in-Running-default-clause-heard
returns-in_err-check_changes-in-Running-default-clause-heard g c =
    let p = err_from_is_err_and c.from_residual-in_err-check_changes-in-Running-default.result c.from_residual-in_err-check_changes-in-Running-default.ensures.1 in
    rw (p.1, p.2) (change_refused _ _ _ _ c.args.self.now (offering c.args.offer) (sym c.in_ok-check_record.ensures.first) (sym c.in_ok-check_record-2.ensures.first) c.in-Running-default.is-0 _ (sym c.in_err-check_changes-in-Running-default.ensures))

pub returns-in-Idle-default-clause-heard : goal.returns-in-Idle-default-clause-heard
returns-in-Idle-default-clause-heard g c =
    taken_idle _ _ _ _ c.args.self.now (offering c.args.offer) (sym c.in_ok-check_record.ensures.first) (sym c.in_ok-check_record-2.ensures.first) _ _
    c.in_ok-check_record.ensures.passed c.in_ok-check_record-2.ensures.passed c.take.new.self c.take.ensures c.in-Idle-default.is-0

pub returns-in_ok-check_changes-in-Running-default-clause-heard : goal.returns-in_ok-check_changes-in-Running-default-clause-heard
returns-in_ok-check_changes-in-Running-default-clause-heard g c =
    taken_running _ _ _ _ c.args.self.now (offering c.args.offer) (sym c.in_ok-check_record.ensures.first) (sym c.in_ok-check_record-2.ensures.first) _ _
    c.in_ok-check_record.ensures.passed c.in_ok-check_record-2.ensures.passed c.take-in-Running-default.new.self c.take-in-Running-default.ensures c.in-Running-default.is-0 (sym c.in_ok-check_changes-in-Running-default.ensures)

pub returns-in_err-check_changes-in-Running-default-clause-exactly : goal.returns-in_err-check_changes-in-Running-default-clause-exactly
returns-in_err-check_changes-in-Running-default-clause-exactly g c =
    let p = err_from_is_err_and c.from_residual-in_err-check_changes-in-Running-default.result c.from_residual-in_err-check_changes-in-Running-default.ensures.1 in
    rw p.1 (refused_exactly _ c.args.self.now.copies (offering c.args.offer) _ c.in-Running-default.is-0 _ (sym c.in_err-check_changes-in-Running-default.ensures))

pub returns-in_ok-check_changes-in-Running-default-clause-exactly : goal.returns-in_ok-check_changes-in-Running-default-clause-exactly
returns-in_ok-check_changes-in-Running-default-clause-exactly g c =
    accepted_exactly _ c.args.self.now.copies (offering c.args.offer) _ c.in-Running-default.is-0 (sym c.in_ok-check_changes-in-Running-default.ensures)
    c.in_ok-check_record.ensures.passed.ranked c.in_ok-check_record-2.ensures.passed.ranked
