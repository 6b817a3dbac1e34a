use Rattle.std.proofs.Common.{◌≡◌, None}
use Rattle.reading.specs.Firsts.{first_below}
use Rattle.reading.specs.Faults.{entry_fault}
use Rattle.reading.proofs.entries.check_entries.Given as goal

abbrev pub invariant-loop-i : goal.invariant-loop-i
invariant-loop-i l = first_below l.i (entry_fault l.entries l.limit l.offset) ≡ None
