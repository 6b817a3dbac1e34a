use Rattle.std.proofs.Common.{◌≡◌, ◌<◌, false, ℕ, Some, None, Option, sym, ◌∙◌, MatchOption}
use Rattle.std.proofs.lemmas.Bool.{both_ways, leb-false, or_parts}
use Rattle.checking.specs.Snapshots.{played}
use Rattle.checking.specs.Arenas.{Arena}
use Rattle.checking.specs.declared.ranking.Ranking.{Ranking}
use Rattle.checking.specs.Solving.{Leading, First, Open, ranks_in, Joining, Barred}
use Rattle.checking.proofs.PlayLaws.{bounded}
use Rattle.checking.proofs.PlaceLaws.{rank_read}
use Rattle.checking.proofs.ranking.Ranking.joining.Goals as goal
use Rattle.checking.proofs.ranking.Ranking.joining.Goals.{then-entry-via-then-entry, then-entry-via-else-entry+then-is_goal, then-entry-via-else-entry+else-is_goal+then-forbids}

joined : (a : Arena) (z : Ranking) (s p : ℕ) → ranks_in a z s p ≡ 65535 → Open a s p → (r : Option ℕ) → MatchOption r ((x : ℕ) → Leading a z.ranked s p x → ⊥) (First a z.ranked s p)
    → MatchOption r (Barred a z s p) (Joining a z s p)
joined a z s p e o (Some x) f = record { fresh = e; free = o; first = f }
joined a z s p e o None never = λ _ _. never

pub returns-then-entry : goal.returns-then-entry
returns-then-entry c =
    let y = c.args.seat.now in
    λ fresh o _ _. elim c.then-entry.branch [
      | then-entry-via-then-entry w ↦ w.if-entry.true (sym (rank_read (played y) (bounded y) c.args.at.state c.args.at.phase o.state c.requires c.args.self.now _ c.entry.ensures) ∙ fresh)
      | then-entry-via-else-entry+then-is_goal w ↦ both_ways _ o.no_goal (sym w.is_goal.ensures ∙ w.if-is_goal.true)
      | then-entry-via-else-entry+else-is_goal+then-forbids w ↦ both_ways _ o.safe (sym w.forbids.ensures ∙ w.if-forbids.true)
    ]

pub returns : goal.returns
returns c =
    let y = c.args.seat.now in
    let safe : (played y).forbidden c.args.at.state ≡ false = sym c.if-forbids.ensures in
    let inside : c.args.at.state < (played y).states = leb-false _ _ (or_parts _ _ safe).0 in
    joined (played y) c.args.self.now c.args.at.state c.args.at.phase
    (rank_read (played y) (bounded y) _ _ inside c.requires c.args.self.now _ c.entry.ensures ∙ c.if-entry.false)
    (record { state = inside; phase = c.requires; no_goal = sym c.if-is_goal.ensures; safe = safe })
    c.first.result c.first.ensures
