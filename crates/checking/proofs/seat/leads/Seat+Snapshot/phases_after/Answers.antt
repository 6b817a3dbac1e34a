use Rattle.std.proofs.Common.{sym, ◌∙◌, arith}
use Rattle.std.proofs.lemmas.Bool.{both_ways}
use Rattle.checking.specs.Snapshots.{played}
use Rattle.checking.proofs.PlayLaws.{follow_low, bounded}
use Rattle.checking.proofs.NearLaws.{after_skip, after_add, after_turn, after_done}
use Rattle.checking.proofs.seat.leads.Seat+Snapshot.phases_after.Goals as goal
use Rattle.checking.proofs.seat.leads.Seat+Snapshot.phases_after.Goals.{then-promised+then-relied, else-promised, else-promised-via-then-promised+else-relied, else-promised-via-else-promised}

pub insert-requires : goal.insert-requires
insert-requires c =
    let t = c.args.self.now.table.now in
    omega (arith, c.from.ensures, c.follow.ensures, follow_low t c.args.self.now.side c.args.phase c.loop-own.own c.loop-partner.partner, t.sizes.few_phases)

pub loop-partner-preserved : goal.loop-partner-preserved
loop-partner-preserved c =
    let a = played c.args.self.now in
    let i = c.loop-partner.invariant in
    elim c.if-promised.branch [
      | then-promised+then-relied w ↦ rw w.after-is (after_add a c.args.phase c.loop-partner.after c.loop-own.own c.loop-partner.partner i w.insert.new.self w.from.result (w.from.ensures ∙ w.follow.ensures) w.insert.ensures)
      | else-promised w ↦ rw w.after-is (after_skip a c.args.phase c.loop-partner.after c.loop-own.own c.loop-partner.partner i (λ hx hb. elim w.else-promised.branch [
        | else-promised-via-then-promised+else-relied w' ↦ both_ways _ (sym w'.relied.ensures ∙ w'.if-relied.false) hb
        | else-promised-via-else-promised w' ↦ both_ways _ (sym c.promised.ensures ∙ w'.if-promised.false) hx
      ]))
    ]

pub loop-own-preserved : goal.loop-own-preserved
loop-own-preserved c = after_turn (played c.args.self.now) c.args.phase c.loop-partner.after c.loop-own.own c.loop-partner.partner c.loop-partner.invariant (omega arith)

pub returns : goal.returns
returns c = after_done (played c.args.self.now) (bounded c.args.self.now) c.args.phase c.loop-own.after c.loop-own.own (omega arith) c.loop-own.invariant
