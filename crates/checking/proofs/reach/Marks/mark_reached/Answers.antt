use Rattle.std.proofs.Common.{rules, ◌≡◌, ◌+◌, ◌*◌, ◌<◌, refl, ap, ◌∙◌, length, arith}
use Rattle.reading.specs.declared.records.Position.{Position}
use Rattle.checking.specs.Marking.{Waiting}
use Rattle.checking.specs.Reach.{places}
use Rattle.checking.proofs.MarkLaws.{place_in, waiting_reached, marking_start, marking_next, marking_done}
use Rattle.checking.proofs.reach.Marks.mark_reached.Goals as goal

pub loop-at-init : goal.loop-at-init
loop-at-init g c =
    let y = c.args.self.now.seat in (
      refl,
      refl,
      marking_start (g.G.Machine.meaning y.game.now) y.table.now y.deal.now y.side (g.met.G.Machine.lawful y.game.now) c.fill.new.self (length c.args.self.now.bytes.now) c.place.result
          (c.fill.ensures.after (λ z k. search rules)) c.args.self.now.long (c.place.ensures ∙ ap (λ (a : Position). a.state * y.table.now.sizes.phases + a.phase) c.start.ensures),
    )

pub mark_next-requires : goal.mark_next-requires
mark_next-requires g c =
    let y = c.args.self.now.seat in
    let i = c.loop-at.invariant in
    rw i.0 (
    waiting_reached (g.G.Machine.meaning y.game.now) y.table.now y.deal.now y.side c.loop-at.self.bytes.now c.in-Some.at i.2 (rw i.0 at c.in-Some.ensures)
    )

pub loop-at-preserved : goal.loop-at-preserved
loop-at-preserved g c =
    let y = c.args.self.now.seat in
    let m = g.G.Machine.meaning y.game.now in
    let at = c.in-Some.at in
    let i = c.loop-at.invariant in
    let w : Waiting m y.table.now c.loop-at.self.bytes.now at = rw i.0 at c.in-Some.ensures in
    let long : length c.loop-at.self.bytes.now ≡ places m y.table.now = rw i.0 at c.loop-at.self.long in
    let inside : c.place-in-Some.result < length c.loop-at.self.bytes.now = omega (arith, c.place-in-Some.ensures, place_in m y.table.now at.state at.phase w.state w.phase, long) in (
      c.mark_next.ensures.grown.seat ∙ i.0,
      c.mark_next.ensures.grown.reference ∙ i.1,
      marking_next m y.table.now y.deal.now y.side c.loop-at.self.bytes.now c.mark_next.new.self.bytes.now at c.place-in-Some.result
          inside c.place-in-Some.ensures w (rw i.0 at c.mark_next.ensures.grown.marked) i.2 (rw i.0 at c.mark_next.ensures.followed),
    )

pub returns-clause-reached : goal.returns-clause-reached
returns-clause-reached g c =
    let y = c.args.self.now.seat in
    let i = c.loop-at.invariant in
    marking_done (g.G.Machine.meaning y.game.now) y.table.now y.deal.now y.side c.loop-at.self.bytes.now c.in_default.ensures i.2 (rw i.0 at c.loop-at.self.long)
