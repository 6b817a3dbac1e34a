use Rattle.std.proofs.Common.{◌≡◌, ℕ, ◌||◌, get_or, ap, ◌∙◌}
use Rattle.checking.specs.StateSets.{member, nothing}
use Rattle.checking.proofs.SourceLaws.{Gathers, walked_next, walked_all, gathers_more, gathers_here}
use Rattle.checking.proofs.state_set.StateSet.union_at.Goals as goal

pub loop-place-preserved : goal.loop-place-preserved
loop-place-preserved c =
    let xs = c.args.sets.now in
    let all = c.loop-place.all in
    let new = c.or-all.result in
    let u = c.in-Some.place in
    let put : (s : ℕ) → member new s ≡ (member all s || member (get_or xs u nothing) s) = λ s. c.or-all.ensures s ∙ ap (λ x. member all s || member x s) c.set_at.ensures in
    walked_next (member c.args.self.now) (Gathers xs new) c.loop-place.from (λ t l e. gathers_more xs all new u put t (c.loop-place.invariant t l e)) 256 u c.in-Some.ensures (gathers_here xs all new u put)

pub returns : goal.returns
returns c t s in_set in_sets = walked_all (member c.args.self.now) (Gathers c.args.sets.now c.loop-place.all) c.loop-place.from c.loop-place.invariant c.in_default.ensures t in_set s in_sets
