use Rattle.std.proofs.Common.{ap, ◌∙◌, vec_items}
use Rattle.checking.specs.StateSets.{member}
use Rattle.checking.specs.Sources.{row_of}
use Rattle.checking.proofs.SourceLaws.{poured_next, poured_all}
use Rattle.checking.proofs.snapshot.take.fill_sources.Goals as goal

pub loop-state-preserved : goal.loop-state-preserved
loop-state-preserved c =
    let rows = c.args.rows.now in
    let k = c.loop-state.state in
    let i = c.loop-state.invariant in (
      c.add_source.ensures.long,
      poured_next c.args.states rows (vec_items c.loop-state.sources) (vec_items c.add_source.new.sources) k i.1 c.add_source.ensures.more c.all_next.result
          (λ x b t lx lb e. c.all_next.ensures x b t lx lb (ap (λ j. member (row_of rows j x b) t) c.from.ensures ∙ e)) c.add_source.ensures.added,
    )

pub returns-clause-filled : goal.returns-clause-filled
returns-clause-filled c = poured_all c.args.states c.args.rows.now _ c.loop-state.state c.loop-state-test.false c.loop-state.invariant.1
