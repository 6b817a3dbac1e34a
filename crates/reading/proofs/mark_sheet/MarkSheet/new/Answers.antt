use Rattle.std.proofs.Common.{refl}
use Rattle.reading.proofs.MarkLaws.{none_marked}
use Rattle.reading.proofs.mark_sheet.MarkSheet.new.Goals as goal

pub invariant_of-result : goal.invariant_of-result
invariant_of-result c =
    let n = c.args.states in
    record {
      forbidden_inside = λ s. rw (none_marked s) refl;
      goals_inside = λ s. rw (none_marked s) refl;
      apart = λ s. rw (none_marked s) refl;
    }
