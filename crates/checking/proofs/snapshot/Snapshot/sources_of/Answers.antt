use Rattle.checking.proofs.SourceLaws.{implied_by}
use Rattle.checking.proofs.snapshot.Snapshot.sources_of.Goals as goal

pub returns : goal.returns
returns c s x b t move in_set = c.union_at.ensures t s in_set (rw c.deref.ensures.value (implied_by _ _ (c.args.self.now.sourced s x b t) move))
