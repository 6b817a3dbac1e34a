use Rattle.std.proofs.Common.{sym, ◌∙◌}
use Rattle.std.proofs.lemmas.Slice.Eq.{bytes_eq-Decides}
use Rattle.inspection.proofs.NameLaws.{one, two, uncounted, unnamed}
use Rattle.inspection.proofs.kinds.Request.parse.Goals as goal

pub returns-in-len1-clause-sound : goal.returns-in-len1-clause-sound
returns-in-len1-clause-sound c =
    rw (one c.args.words.now c.name-item.result c.in-len1.len_at_least c.in-len1.len_below c.name-item.is)
    (sym c.as_str.ensures.value ∙ (bytes_eq-Decides _ _).0 (sym c.eq.ensures ∙ c.if-eq.true))

pub returns-in_err-states-in-len2-clause-complete :
    goal.returns-in_err-states-in-len2-clause-complete
returns-in_err-states-in-len2-clause-complete c =
    rw (two c.args.words.now c.name-item-then-words-lt3.result c.count-item.result c.in-len2.len_at_least c.in-len2.len_below c.name-item-then-words-lt3.is c.count-item.is)
    λ request a. absurd (uncounted _ _ (rw c.as_str-in-len2-2.ensures.value at c.in_err-states-in-len2.ensures.complete) request a)

pub returns-in_err-kind-in-len2-clause-complete : goal.returns-in_err-kind-in-len2-clause-complete
returns-in_err-kind-in-len2-clause-complete c =
    rw (two c.args.words.now c.name-item-then-words-lt3.result c.count-item.result c.in-len2.len_at_least c.in-len2.len_below c.name-item-then-words-lt3.is c.count-item.is)
    λ request a. absurd (unnamed _ _ c.in_ok-states-in-len2.field-0 (rw c.as_str-in-len2-2.ensures.value at c.in_ok-states-in-len2.ensures.sound)
    (rw c.as_str-in-len2.ensures.value at c.in_err-kind-in-len2.ensures.complete) request a)
