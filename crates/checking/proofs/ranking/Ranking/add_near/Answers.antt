use Rattle.std.proofs.Common.{◌+◌, ◌∙◌, arith}
use Rattle.checking.specs.Snapshots.{played}
use Rattle.checking.specs.Solving.{Quiet}
use Rattle.checking.proofs.PlayLaws.{bounded}
use Rattle.checking.proofs.PlaceLaws.{written, zeros_same}
use Rattle.checking.proofs.PassLaws.{layering_keep, layering_add}
use Rattle.checking.proofs.NearLaws.{layering_jump, layering_turn}
use Rattle.checking.proofs.ranking.Ranking.add_near.Goals as goal
use Rattle.checking.proofs.ranking.Ranking.add_near.Goals.{in-Some-joining, in_default-joining}

pub loop-state-preserved : goal.loop-state-preserved
loop-state-preserved c =
    let y = c.args.seat.now in
    let b = bounded y in
    let i = c.loop-state.invariant in
    let first = c.in-Some.ensures in
    let q : Quiet (played y) c.loop-state.self.ranked c.args.phase c.args.near.now = rw i.1 c.requires.quiet in
    let j = layering_jump (played y) b c.loop-state.self c.loop-state.next c.args.depth c.args.phase c.loop-state.from i.0 c.args.near.now c.requires.few q c.in-Some.state first.before in
    elim c.match-joining.branch [
      | in-Some-joining w ↦ (let k = w.in-Some-joining.ensures in
          let e = w.give.ensures in
          let v = written (played y) b _ _ k.free.state c.requires.phase c.loop-state.self w.give.new.self _ e.entries in
          rw (w.self-is, w.next-is, w.from.ensures) (
            layering_add (played y) b _ _ _ _ _ j _ _ _ k v e.sets c.requires.some c.requires.few (rw w.from.ensures at w.insert.ensures),
            e.sets ∙ i.1,
            zeros_same (played y) b _ _ k.free.state c.requires.phase c.loop-state.self w.give.new.self _ e.entries c.requires.some (omega (arith, k.fresh)) ∙ i.2,
          ))
      | in_default-joining w ↦ rw (w.self-is, w.next-is) (layering_keep (played y) b _ _ _ _ _ j w.in_default-joining.ensures, i.1, i.2)
    ]

pub returns-clause-after : goal.returns-clause-after
returns-clause-after c =
    let y = c.args.seat.now in
    let i = c.loop-state.invariant in
    let q : Quiet (played y) c.loop-state.self.ranked c.args.phase c.args.near.now = rw i.1 c.requires.quiet in
    let end = c.loop-state.from + (played y).states in
    layering_turn (played y) c.loop-state.self c.loop-state.next c.args.depth c.args.phase end (omega arith)
    (layering_jump (played y) (bounded y) c.loop-state.self c.loop-state.next c.args.depth c.args.phase c.loop-state.from i.0 c.args.near.now c.requires.few q end (λ t le lt. c.in_default.ensures t le))
