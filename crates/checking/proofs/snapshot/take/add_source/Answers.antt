use Rattle.std.proofs.Common.{◌≡◌, ℕ, ◌<◌, true, ◌||◌, eqb, get_or, length, vec_items, set, sym, ap, ◌∙◌, arith}
use Rattle.std.proofs.lemmas.List.{get_or_read}
use Rattle.checking.specs.StateSets.{member, nothing}
use Rattle.checking.proofs.SourceLaws.{walked_next, walked_all, put_more, put_here}
use Rattle.checking.proofs.snapshot.take.add_source.Goals as goal

pub loop-target-preserved : goal.loop-target-preserved
loop-target-preserved c =
    let i = c.loop-target.invariant in
    let first = c.in-Some.ensures in
    let xs = vec_items c.loop-target.sources in
    let u = c.from.result in
    let v = c.insert.new.self in
    let state = c.args.state in
    let lt : u < length xs = omega (arith, c.from.ensures, i.0, first.high, c.loop-target.sources.ok.0) in
    let put : (s : ℕ) → member v s ≡ (eqb s state || member (get_or xs u nothing) s) = λ s. c.insert.ensures s ∙ ap (λ x. eqb s state || member x s) (get_or_read _ _ _ lt c.index_mut.ensures.value nothing) in
    let here : member (get_or (set xs u v) c.in-Some.target nothing) state ≡ true = ap (λ k. member (get_or (set xs u v) k nothing) state) (sym c.from.ensures) ∙ put_here xs u state v lt put in (
      i.0,
      λ t s e. put_more xs u state v lt put t s (i.1 t s e),
      walked_next (member c.args.next.now) (λ t. member (get_or (set xs u v) t nothing) state ≡ true) c.loop-target.from (λ t l e. put_more xs u state v lt put t state (i.2 t l e)) 256 c.in-Some.target first here,
    )

pub returns-clause-added : goal.returns-clause-added
returns-clause-added c = walked_all (member c.args.next.now) _ c.loop-target.from c.loop-target.invariant.2 c.in_default.ensures
