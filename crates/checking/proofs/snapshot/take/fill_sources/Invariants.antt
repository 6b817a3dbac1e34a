use Rattle.std.proofs.Common.{◌≡◌, vec_items, vec_len}
use Rattle.checking.proofs.SourceLaws.{Poured}
use Rattle.checking.proofs.snapshot.take.fill_sources.Given as goal

abbrev pub invariant-loop-state : goal.invariant-loop-state
invariant-loop-state l = (vec_len l.sources ≡ 256) × Poured l.states l.rows (vec_items l.sources) l.state
