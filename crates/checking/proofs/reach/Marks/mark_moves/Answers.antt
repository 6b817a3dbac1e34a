use Rattle.std.proofs.Common.{◌≡◌, length, sym, ◌∙◌, arith}
use Rattle.std.proofs.lemmas.Bool.{false≢true}
use Rattle.checking.specs.Reach.{places}
use Rattle.checking.proofs.PlayLaws.{follow_low}
use Rattle.checking.proofs.MarkLaws.{place_in, moves_skip, move_marked}
use Rattle.checking.proofs.reach.Marks.mark_moves.Goals as goal
use Rattle.checking.proofs.reach.Marks.mark_moves.Goals.{then-may_move, else-may_move}

pub mark-requires : goal.mark-requires
mark-requires g c =
    let y = c.args.self.now.seat in
    let m = g.G.Machine.meaning y.game.now in
    let long : length c.loop-state.self.bytes.now ≡ places m y.table.now = rw c.loop-state.invariant.0 at c.loop-state.self.long in
    omega (
      arith,
      c.place.ensures,
      place_in m y.table.now c.loop-state.state c.follow-phase.result
          (omega (arith, c.loop-state-test.true, c.states-state-end.ensures))
          (omega (arith, c.follow-phase.ensures, follow_low y.table.now y.side c.args.at.phase c.args.own c.args.partner)),
      long,
    )

pub loop-state-preserved : goal.loop-state-preserved
loop-state-preserved g c =
    let y = c.args.self.now.seat in
    let m = g.G.Machine.meaning y.game.now in
    let i = c.loop-state.invariant in
    elim c.if-may_move.branch [
      | then-may_move w ↦ rw w.self-is (
          let k = move_marked m y.table.now y.deal.now y.side c.args.self.now.bytes.now c.loop-state.self.bytes.now w.mark.new.marks c.args.at.state c.args.at.phase c.args.own c.args.partner c.loop-state.state c.follow-phase.result w.place.result
          c.requires.reached c.requires.promised c.requires.relied (sym w.if-may_move.ensures) c.follow-phase.ensures w.place.ensures w.mark.ensures.marked w.mark.ensures.there (i.2, i.3) in
          (i.0, i.1, k.0, k.1)
          )
      | else-may_move w ↦ rw w.self-is (
        i.0,
        i.1,
        i.2,
        moves_skip m y.table.now c.args.at.state c.args.own c.args.partner c.follow-phase.result c.loop-state.state c.loop-state.self.bytes.now
            (λ e. false≢true (sym w.if-may_move.false ∙ c.may_move.ensures ∙ e)) i.3,
      )
    ]
