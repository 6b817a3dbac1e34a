use Rattle.std.proofs.Common.{◌≡◌, ◌<◌, [], get_or, length, vec_items, sym, ap, ◌∙◌, arith}
use Rattle.std.proofs.lemmas.List.{get_or_read}
use Rattle.checking.proofs.SnapshotLaws.{move_row}
use Rattle.checking.proofs.snapshot.Snapshot.row.Goals as goal

pub returns-then-partner-lt-SIGNALS : goal.returns-then-partner-lt-SIGNALS
returns-then-partner-lt-SIGNALS c =
    let z = c.args.self.now in
    let rows = vec_items z.rows in
    let inside : c.from.result < length rows = omega (arith, c.from.ensures, z.rows_long, z.frame.few_states, c.if-state-self.true) in
    let here : c.index.result.now ≡ get_or rows c.args.state [] = get_or_read _ _ _ inside c.index.ensures [] ∙ ap (λ i. get_or rows i []) c.from.ensures in
    λ t. rw (c.from-then-partner-lt-SIGNALS.ensures, c.from-then-partner-lt-SIGNALS-2.ensures, here) (sym (move_row z.frame.states rows c.args.state c.args.own c.args.partner c.if-state-self.true c.if-own-lt-SIGNALS.true c.if-partner-lt-SIGNALS.true t))
