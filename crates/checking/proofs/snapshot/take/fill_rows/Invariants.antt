use Rattle.std.proofs.Common.{◌≡◌, vec_items, vec_len}
use Rattle.checking.proofs.SnapshotLaws.{Filled}
use Rattle.checking.proofs.snapshot.take.fill_rows.Given as goal

abbrev pub invariant-loop-state : goal.invariant-loop-state
invariant-loop-state g l = (vec_len l.rows ≡ 256) × Filled (g.G.Machine.meaning l.game) (vec_items l.rows) l.state
