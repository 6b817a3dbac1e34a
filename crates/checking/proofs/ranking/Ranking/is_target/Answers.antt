use Rattle.std.proofs.Common.{sym, ◌∙◌}
use Rattle.std.proofs.lemmas.Bool.{false≢true, eqb-true, not-true, not_from_false}
use Rattle.checking.specs.Snapshots.{played}
use Rattle.checking.proofs.PlayLaws.{bounded}
use Rattle.checking.proofs.PlaceLaws.{rank_read}
use Rattle.checking.proofs.ranking.Ranking.is_target.Goals as goal
use Rattle.checking.proofs.ranking.Ranking.is_target.Goals.{then-entry-eq0, else-entry-eq0}

pub returns-then-is_goal : goal.returns-then-is_goal
returns-then-is_goal c =
    let y = c.args.seat.now in
    elim c.if-entry-eq0.branch [
      | then-entry-eq0 w ↦ (
        λ e. record {
          zero = rank_read (played y) (bounded y) _ _ c.requires.state c.requires.phase c.args.self.now _ c.entry.ensures ∙ w.if-entry-eq0.true;
          goal = sym w.is_goal.ensures ∙ sym w.value-is ∙ c.if-is_goal.true;
          safe = sym c.forbids.ensures ∙ not-true _ e;
        },
        λ t. not_from_false _ (c.forbids.ensures ∙ t.safe),
      )
      | else-entry-eq0 w ↦ absurd (w.if-entry-eq0.false (eqb-true _ _ (sym w.value-is ∙ c.if-is_goal.true)))
    ]

pub returns-else-is_goal : goal.returns-else-is_goal
returns-else-is_goal c =
    let y = c.args.seat.now in (
      λ e. absurd (false≢true (sym c.if-is_goal.false ∙ e)),
      λ t. elim c.if-entry-eq0.branch [
        | then-entry-eq0 w ↦ w.value-is ∙ w.is_goal.ensures ∙ t.goal
        | else-entry-eq0 w ↦ absurd (w.if-entry-eq0.false (sym (rank_read (played y) (bounded y) _ _ c.requires.state c.requires.phase c.args.self.now _ c.entry.ensures) ∙ t.zero))
      ],
    )
