use Rattle.std.proofs.Common.{sym, refl}
use Rattle.std.proofs.lemmas.Result.{err_from_is_err_and}
use Rattle.reading.proofs.FirstLaws.{stopped, none_end, not_true}
use Rattle.games.proofs.DealLaws.{gapped, agree_from}
use Rattle.games.proofs.deal.talk.steps.check_gaps.Goals as goal

pub returns-in_err-check_phase : goal.returns-in_err-check_phase
returns-in_err-check_phase c =
    let p = err_from_is_err_and c.from_residual.result c.from_residual.ensures.1 in
    let e = stopped _ _ c.loop-phase.phase c.loop-phase-test.true c.loop-phase.invariant c.in_err-check_phase.ensures in
    rw (p.1, p.2) (record { first = e; words = (λ z. absurd (not_true z), λ a. absurd (gapped _ _ _ _ e a)) })

pub returns-clause-words : goal.returns-clause-words
returns-clause-words c =
    (λ _. agree_from _ _ _ (sym (none_end c.loop-phase.phase c.args.phases _ c.loop-phase-test.false c.loop-phase.invariant)), λ _. refl)
