use Rattle.std.proofs.Common.{◌∙◌}
use Rattle.std.proofs.lemmas.Bool.{or_left, or_right}
use Rattle.checking.proofs.SourceLaws.{of_four}
use Rattle.checking.proofs.snapshot.take.any_of_four.Goals as goal

pub returns : goal.returns
returns c i t l = of_four c.args.sets.now c.or-3.result t
    (λ e. c.or-3.ensures t ∙ or_left _ _ (c.or.ensures t ∙ or_left _ _ e))
    (λ e. c.or-3.ensures t ∙ or_left _ _ (c.or.ensures t ∙ or_right _ _ e))
    (λ e. c.or-3.ensures t ∙ or_right _ _ (c.or-2.ensures t ∙ or_left _ _ e))
    (λ e. c.or-3.ensures t ∙ or_right _ _ (c.or-2.ensures t ∙ or_right _ _ e)) i l
