use Rattle.std.proofs.Common.{sym, ◌∙◌}
use Rattle.std.proofs.lemmas.Bool.{false≢true, and_from}
use Rattle.checking.proofs.MarkLaws.{follow_skip, follow_more}
use Rattle.checking.proofs.reach.Marks.mark_next.Goals as goal
use Rattle.checking.proofs.reach.Marks.mark_next.Goals.{then-plays, else-plays}

pub loop-partner-preserved : goal.loop-partner-preserved
loop-partner-preserved g c =
    let y = c.args.self.now.seat in
    let m = g.G.Machine.meaning y.game.now in
    let i = c.loop-partner.invariant in
    elim c.if-plays.branch [
      | then-plays w ↦ rw w.self-is (
          let k = follow_more m y.table.now y.deal.now y.side c.args.at.state c.args.at.phase c.loop-own.own c.loop-partner.partner c.args.self.now.bytes.now c.loop-partner.self.bytes.now w.mark_moves.new.self.bytes.now
          (rw i.0 at w.mark_moves.ensures.grown.marked) (rw i.0 at w.mark_moves.ensures.moves) (i.2, i.3) in
          (w.mark_moves.ensures.grown.seat ∙ i.0, w.mark_moves.ensures.grown.reference ∙ i.1, k.0, k.1)
          )
      | else-plays w ↦ rw w.self-is (
        i.0,
        i.1,
        i.2,
        follow_skip m y.table.now y.deal.now y.side c.args.at.state c.args.at.phase c.loop-own.own c.loop-partner.partner c.loop-partner.self.bytes.now
            (λ hx hb. false≢true (sym w.if-plays.false ∙ c.plays.ensures ∙ and_from _ _ hx hb)) i.3,
      )
    ]
