use Rattle.std.proofs.Common.{refl, ◌∙◌, arith}
use Rattle.checking.proofs.PlayLaws.{follow_low, answered_from, answered_to}
use Rattle.checking.proofs.seat.leads.Seat+Snapshot.answered.Goals as goal

pub bounds-sets-from : goal.bounds-sets-from
bounds-sets-from c =
    let t = c.args.self.now.table.now in
    omega (arith, c.from.ensures, c.follow-follow.ensures, follow_low t c.args.self.now.side c.args.at.phase c.args.own c.args.partner, t.sizes.few_phases)

pub returns-then-not-is_empty : goal.returns-then-not-is_empty
returns-then-not-is_empty c =
    let e = c.from.ensures ∙ c.follow-follow.ensures in (
      λ w. answered_from c.args.self.now c.args.sets.now _ _ _ _ c.from.result e c.row-row.result c.row-row.ensures (c.if-not-is_empty.ensures.some refl) (c.within.ensures.0 w),
      λ w. c.within.ensures.1 (answered_to c.args.self.now c.args.sets.now _ _ _ _ c.from.result e c.row-row.result c.row-row.ensures w),
    )
