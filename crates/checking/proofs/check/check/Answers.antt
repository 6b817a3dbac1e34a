use Rattle.std.proofs.Common.{sym, refl, ap, ◌∙◌}
use Rattle.reading.specs.Records.{bound_of}
use Rattle.reading.proofs.Answering.{passed}
use Rattle.checking.proofs.CheckLaws.{refuses, accepts, plan_next}
use Rattle.checking.proofs.check.check.Goals as goal

pub returns-in_err-check-3-clause-ranked : goal.returns-in_err-check-3-clause-ranked
returns-in_err-check-3-clause-ranked g c =
    let a = c.args in
    let w = g.met.G.Machine.lawful a.game.now in
    let e = plan_next _ a.table.now a.deal.now a.side (g.G.Game.marks a.game.now) w a.bytes.now _ c.in_ok-plan.ensures.value (sym c.suits.ensures ∙ passed _ _ c.in_ok-check.ensures) (sym c.in_ok-plan.ensures.first) (sym c.sized.ensures ∙ passed _ _ c.in_ok-check-2.ensures) in
    refuses _ _ _ _ _ w _ _ _ c.from_residual-in_err-check-3.ensures.1 (e ∙ sym c.in_err-check-3.ensures)

pub returns : goal.returns
returns g c =
    let a = c.args in
    let w = g.met.G.Machine.lawful a.game.now in
    let e = plan_next _ a.table.now a.deal.now a.side (g.G.Game.marks a.game.now) w a.bytes.now _ c.in_ok-plan.ensures.value (sym c.suits.ensures ∙ passed _ _ c.in_ok-check.ensures) (sym c.in_ok-plan.ensures.first) (sym c.sized.ensures ∙ passed _ _ c.in_ok-check-2.ensures) ∙ sym c.in_ok-check-3.ensures in
    let b = c.bound.ensures ∙ ap bound_of c.in_ok-plan.ensures.value in
    let q = accepts _ _ _ _ _ w _ _ b c.bound.type_inv e in
    record { first = rw (b, e) refl; ranked = (λ z. q.0, λ z. refl); bound = q.1 }
