use Rattle.std.proofs.Common.{◌≤◌, arith}
use Rattle.checking.proofs.StateSetLaws.{LowNone, first_none, no_high}
use Rattle.checking.proofs.state_set.StateSet.first_from.Goals as goal
use Rattle.checking.proofs.state_set.StateSet.first_from.Goals.{then-from-lt-WORD+in_default, else-from-lt-WORD}

pub returns-then-from-ge-WORD : goal.returns-then-from-ge-WORD
returns-then-from-ge-WORD c =
    let past : 256 ≤ c.args.from = omega (arith, c.saturating_sub-from.ensures, c.if-from-ge-WORD.true) in
    let none : LowNone c.args.self.now c.args.from = λ i le lt. absurd (omega arith) in
    first_none c.args.self.now c.args.from none (λ i le. no_high c.args.self.now.high i (omega arith) (omega arith))
