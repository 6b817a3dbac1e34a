use Rattle.std.proofs.Common.{◌≡◌, ◌≤◌, vec_items, vec_len}
use Rattle.checking.specs.Searching.{promises}
use Rattle.checking.proofs.search.promises.Promises.list.Given as goal

abbrev pub invariant-loop-phase : goal.invariant-loop-phase
invariant-loop-phase l = (vec_items l.self.numbers ≡ promises l.phase l.signals) × (vec_len l.self.numbers ≤ 65535)
