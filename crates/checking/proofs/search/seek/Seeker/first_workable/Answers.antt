use Rattle.std.proofs.Common.{arith}
use Rattle.checking.proofs.VerdictLaws.{onward, both_back, one_back, none_next, none_fewer}
use Rattle.checking.proofs.search.seek.Seeker.first_workable.Goals as goal

pub returns-then-workable : goal.returns-then-workable
returns-then-workable c =
    let i = c.loop-place.invariant in
    record { below = c.loop-place-test.true; win = both_back i.0 (c.workable.ensures.wins c.if-workable.true); first = i.1 }

pub loop-place-preserved : goal.loop-place-preserved
loop-place-preserved c =
    let i = c.loop-place.invariant in
    (onward i.0 c.workable.ensures.knows, none_next c.args.candidates.now.table.now c.args.self.now _ i.1 (one_back i.0 (c.workable.ensures.fails c.if-workable.false)))

pub returns : goal.returns
returns c = none_fewer c.args.candidates.now.table.now c.args.self.now _ c.loop-place.invariant.1 c.args.many (omega (arith, c.loop-place-test.false))
