use Rattle.std.proofs.Common.{false, true, inl, inr}
use Rattle.checking.specs.Searching.{candidate}
use Rattle.checking.proofs.VerdictLaws.{verdict_back}
use Rattle.checking.proofs.search.seek.Seeker.workable.Goals as goal

pub returns-then-tries-clause-wins : goal.returns-then-tries-clause-wins
returns-then-tries-clause-wins c e =
    let t = c.args.candidates.now.table.now in
    let k = candidate t.sizes c.args.place in
    record {
      first = verdict_back t 0 k _ _ true c.if-tries.true c.probe.ensures.first c.tries.ensures.verdict;
      second = verdict_back t 1 k _ _ true e c.probe.ensures.second c.tries-then-tries.ensures.verdict;
    }

pub returns-then-tries-clause-fails : goal.returns-then-tries-clause-fails
returns-then-tries-clause-fails c e =
    let t = c.args.candidates.now.table.now in
    inr (verdict_back t 1 (candidate t.sizes c.args.place) _ _ false e c.probe.ensures.second c.tries-then-tries.ensures.verdict)

pub returns-else-tries-clause-fails : goal.returns-else-tries-clause-fails
returns-else-tries-clause-fails c e =
    let t = c.args.candidates.now.table.now in
    inl (verdict_back t 0 (candidate t.sizes c.args.place) _ _ false e c.probe.ensures.first c.tries.ensures.verdict)
