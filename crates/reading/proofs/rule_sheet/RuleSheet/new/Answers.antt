use Rattle.std.proofs.Common.{arith}
use Rattle.reading.proofs.Padding.{zeros_below}
use Rattle.reading.proofs.rule_sheet.RuleSheet.new.Goals as goal

pub invariant_of-result : goal.invariant_of-result
invariant_of-result c = record {
  some_states = omega arith;
  few_states = omega arith;
  accepts = omega arith;
  starts = omega arith;
  closed = zeros_below 64 1 (omega arith);
}
