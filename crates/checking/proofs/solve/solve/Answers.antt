use Rattle.std.proofs.Common.{sym, refl, ap, ◌∙◌}
use Rattle.std.proofs.lemmas.Bool.{eqb-true}
use Rattle.std.proofs.lemmas.Result.{err_from_is_err_and}
use Rattle.reading.specs.Records.{bound_of}
use Rattle.reading.proofs.Answering.{passed, failed}
use Rattle.checking.specs.Solutions.{record_size}
use Rattle.checking.proofs.SolveLaws.{lawful_written, none_found, written_found}
use Rattle.checking.proofs.solve.solve.Goals as goal

pub returns-in_err-check-3 : goal.returns-in_err-check-3
returns-in_err-check-3 g c =
    let m = g.G.Machine.meaning c.args.game.now in
    let suits = sym c.suits.ensures ∙ passed _ _ c.in_ok-check.ensures in
    let size = eqb-true _ _ (passed _ _ c.in_ok-check-2.ensures) ∙ c.length-size.ensures ∙ ap (λ i. record_size i c.phases.result) c.states.ensures ∙ ap (record_size m.states) c.phases.ensures in
    let p = err_from_is_err_and c.from_residual-in_err-check-3.result c.from_residual-in_err-check-3.ensures.1 in
    let f = failed _ _ c.in_err-check-3.ensures in
    rw (p.1, p.2, f.1) (
      refl,
      none_found m (g.G.Game.marks c.args.game.now) c.args.table.now c.args.deal.now c.args.side (g.met.G.Machine.lawful c.args.game.now) suits c.take.new.self c.take.ensures c.settle.new.self c.settle.ensures
          c.args.buffer.now size (sym c.ranks_start-kept.ensures ∙ f.0),
    )

pub unwrap-requires : goal.unwrap-requires
unwrap-requires g c =
    let m = g.G.Machine.meaning c.args.game.now in
    let suits = sym c.suits.ensures ∙ passed _ _ c.in_ok-check.ensures in
    let size = eqb-true _ _ (passed _ _ c.in_ok-check-2.ensures) ∙ c.length-size.ensures ∙ ap (λ i. record_size i c.phases.result) c.states.ensures ∙ ap (record_size m.states) c.phases.ensures in
    c.read.ensures.lawful.1 (lawful_written m (g.G.Game.marks c.args.game.now) c.args.table.now c.args.deal.now c.args.side (g.met.G.Machine.lawful c.args.game.now) suits c.take.new.self c.take.ensures c.settle.new.self
    c.settle.ensures c.args.buffer.now size c.write.new.buffer c.write.ensures)

pub returns : goal.returns
returns g c =
    let m = g.G.Machine.meaning c.args.game.now in
    let suits = sym c.suits.ensures ∙ passed _ _ c.in_ok-check.ensures in
    let size = eqb-true _ _ (passed _ _ c.in_ok-check-2.ensures) ∙ c.length-size.ensures ∙ ap (λ i. record_size i c.phases.result) c.states.ensures ∙ ap (record_size m.states) c.phases.ensures in
    written_found m (g.G.Game.marks c.args.game.now) c.args.table.now c.args.deal.now c.args.side (g.met.G.Machine.lawful c.args.game.now) suits c.take.new.self c.take.ensures c.settle.new.self c.settle.ensures
    c.args.buffer.now size (sym c.ranks_start-kept.ensures ∙ passed _ _ c.in_ok-check-3.ensures)
    c.write.new.buffer c.write.ensures c.bound.result (c.bound.ensures ∙ ap bound_of (rw c.unwrap.ensures at c.read.ensures.value))
