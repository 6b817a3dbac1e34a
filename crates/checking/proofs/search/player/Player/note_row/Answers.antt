use Rattle.std.proofs.Common.{◌+◌, ◌*◌, Some, length, get_or, not, vec_items, refl, sym, subst, arith}
use Rattle.reading.specs.Sides.{both}
use Rattle.reading.specs.declared.sides.Sides.{Sides}
use Rattle.checking.specs.declared.snapshot.Snapshot.{Snapshot}
use Rattle.checking.specs.Searching.{candidate}
use Rattle.checking.specs.Verdicts.{Ordered, Verdict, upward}
use Rattle.checking.proofs.CandidateLaws.{place_below, candidate_at, candidate_deal}
use Rattle.checking.proofs.VerdictLaws.{decided, noted}
use Rattle.checking.proofs.search.player.Player.note_row.Goals as goal
use Rattle.checking.proofs.search.player.Player.note_row.Goals.{then-ordered, else-ordered}

pub index_mut-requires : goal.index_mut-requires
index_mut-requires c =
    let y = c.args.candidates.now in
    omega (arith, c.loop-column.self.long, c.requires.few, place_below y.table.now.sizes y.first.now y.second.now y.listed0 y.listed1 c.args.row c.loop-column.column c.requires.row c.loop-column-test.true)

pub loop-column-preserved : goal.loop-column-preserved
loop-column-preserved c =
    let y = c.args.candidates.now in
    let z = y.table.now.sizes in
    let i = c.loop-column.invariant in
    let columns = length y.second.now in
    let place = c.args.row * columns + c.loop-column.column in
    let at = candidate_at z y.first.now y.second.now y.listed0 y.listed1 c.args.row c.loop-column.column c.requires.row c.loop-column-test.true in
    let on = candidate_deal z c.args.place c.requires.place in
    let new : Sides _ = both (get_or y.first.now c.args.row 0) (get_or y.second.now c.loop-column.column 0) in
    let there : Ordered (not (upward c.args.side c.args.won)) (candidate z c.args.place).second new.second → Verdict c.loop-column.self.snapshot y.table.now c.args.side (candidate z place) (Some c.args.won) =
    λ o. subst (λ (s : Sides _). Verdict c.loop-column.self.snapshot y.table.now c.args.side s (Some c.args.won)) (sym at)
    (subst (λ (p : Snapshot). Verdict p y.table.now c.args.side new (Some c.args.won)) (sym i.1)
    (decided c.args.self.now.snapshot y.table.now (candidate z c.args.place) new on.0 on.1 c.args.side c.args.won c.requires.verdict c.requires.ordered o)) in
    elim c.if-ordered.branch [
      | then-ordered w ↦ rw w.self-is (
        noted c.loop-column.self.snapshot y.table.now c.args.side (vec_items c.loop-column.self.verdicts) place c.args.won
            (omega (arith, c.loop-column.self.long, c.requires.few, place_below z y.first.now y.second.now y.listed0 y.listed1 c.args.row c.loop-column.column c.requires.row c.loop-column-test.true))
            i.0 (there (subst (λ (s : Sides _). Ordered (not (upward c.args.side c.args.won)) s.second (get_or y.second.now c.loop-column.column 0)) c.at-at.ensures (w.if-ordered.ensures.0 refl))),
        i.1,
      )
      | else-ordered w ↦ rw w.self-is i
    ]
