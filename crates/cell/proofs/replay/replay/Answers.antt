use Rattle.std.proofs.Common.{refl, rules, ◌+◌, ◌<◌, length, arith, ◌∙◌}
use Rattle.std.proofs.lemmas.List.{drop-set-lt, length-set}
use Rattle.cell.proofs.ReplayLaws.{going_start, going_next, same_rest, fills}
use Rattle.cell.proofs.replay.replay.Goals as goal

pub loop-i-init : goal.loop-i-init
loop-i-init g c = (going_start _ _ _ _ c.args.first c.args.second c.within-cell.result c.within-cell.ensures, (refl, refl))

pub loop-i-preserved : goal.loop-i-preserved
loop-i-preserved g c =
    let i = c.loop-i.i in
    let inv = c.loop-i.invariant in
    let a = c.hear.result in
    let called : i < length c.args.calls.now = omega (arith, c.min-count.ensures, c.loop-i-test.true) in
    let old : i < length c.args.answers.now = omega (arith, c.min-count.ensures, c.loop-i-test.true) in
    let room : i < length c.loop-i.answers = omega (arith, old, inv.1.1) in (
      going_next _ _ _ _ c.args.first c.args.second c.args.calls.now i c.loop-i.answers c.loop-i.cell c.hear.new.self c.index-calls-i.result a called room c.index-calls-i.is inv.0 c.hear.ensures.heard,
      (
        drop-set-lt (i + 1) c.loop-i.answers i a (omega arith) ∙ same_rest c.loop-i.answers c.args.answers.now i a room old inv.1.0,
        length-set c.loop-i.answers i a ∙ inv.1.1,
      ),
    )

pub returns : goal.returns
returns g c =
    let inv = c.loop-i.invariant in
    fills _ _ _ _ c.args.first c.args.second c.args.calls.now c.args.answers.now c.loop-i.answers c.loop-i.i c.min-count.result c.loop-i.cell (omega (arith, c.min-count.ensures)) (search rules) inv.0 inv.1.0 inv.1.1
