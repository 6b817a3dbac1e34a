use Rattle.std.proofs.Common.{◌≡◌, None}
use Rattle.reading.specs.Firsts.{first_below}
use Rattle.reading.specs.Records.{choice_fault}
use Rattle.reading.proofs.records.read.check_choices.Given as goal

abbrev pub invariant-loop-i : goal.invariant-loop-i
invariant-loop-i l = first_below l.i (choice_fault l.choices l.signals) ≡ None
