use Rattle.std.proofs.Common.{vec_items, sym, subst, arith}
use Rattle.checking.specs.Sources.{Sourced}
use Rattle.checking.proofs.SourceLaws.{nothing_sourced, rows_same}
use Rattle.checking.proofs.snapshot.Snapshot.new.Goals as goal

pub invariant_of-result-clause-sourced : goal.invariant_of-result-clause-sourced
invariant_of-result-clause-sourced c =
    let n = c.least.result.states in
    let sources = vec_items c.in_ok-vec-2.field-0 in
    let items = c.in_ok-vec.ensures.items_if_clones_equal (λ y w. rows_same _ (λ u v h. h) c.empty.result y w) in
    subst (λ rows. Sourced n rows sources) (sym items) (nothing_sourced n 256 c.empty.result sources c.empty.ensures (omega (arith, c.least.result.few_states)))
