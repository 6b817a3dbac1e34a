use Rattle.std.proofs.Common.{◌≡◌, ◌+◌, ◌*◌, ◌<◌, vec_items, sym, ap, ◌∙◌, arith}
use Rattle.checking.specs.Snapshots.{played}
use Rattle.checking.specs.Solving.{held}
use Rattle.checking.proofs.PlaceLaws.{held_in}
use Rattle.checking.proofs.WriteLaws.{writing_at}
use Rattle.checking.proofs.ranking.Ranking.write.Goals as goal

pub loop-phase-preserved : goal.loop-phase-preserved
loop-phase-preserved c =
    let y = c.args.seat.now in
    let s = c.loop-state.state in
    let p = c.loop-phase.phase in
    let hs : s < (played y).states = omega (arith, c.states-states.ensures, c.loop-state-test.true) in
    let hp : p < (played y).phases = omega (arith, c.phases-phases.ensures, c.loop-phase-test.true) in
    let n = c.places-size.ensures ∙ ap (λ i. i * c.phases-phases.result) c.states-states.ensures ∙ ap (λ i. (played y).states * i) c.phases-phases.ensures in
    let k = c.place.ensures ∙ ap (λ i. s * i + p) c.phases-phases.ensures in
    let e : c.entry.result ≡ held (played y) (vec_items c.args.self.now.entries) s p = c.entry.ensures ∙ sym (held_in (played y) (vec_items c.args.self.now.entries) s p hs hp) in
    writing_at (played y) c.args.self.now _ _ _ _ s p n k c.entry.result e hs hp c.loop-phase.invariant c.put_entry.ensures.head c.put_entry.ensures.entry c.put_entry.ensures.others (λ i. (c.type_inv.buffer i).fits)
