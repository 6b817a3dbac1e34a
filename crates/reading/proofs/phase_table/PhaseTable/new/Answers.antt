use Rattle.std.proofs.Common.{arith}
use Rattle.reading.proofs.Padding.{zeros_below}
use Rattle.reading.proofs.phase_table.PhaseTable.new.Goals as goal

pub invariant_of-result : goal.invariant_of-result
invariant_of-result c = record { closed = zeros_below 128 _ (omega arith) }
