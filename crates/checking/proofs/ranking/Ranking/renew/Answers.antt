use Rattle.std.proofs.Common.{refl, arith}
use Rattle.checking.specs.Snapshots.{played}
use Rattle.checking.proofs.PlayLaws.{bounded}
use Rattle.checking.proofs.PlaceLaws.{written, zeros_kept, zeros_fall}
use Rattle.checking.proofs.ranking.Ranking.renew.Goals as goal

pub returns-in-Some : goal.returns-in-Some
returns-in-Some c =
    let y = c.args.seat.now in
    let g = c.give.ensures in (
      g.sets,
      λ e. record {
        own = c.in-Some.choice;
        first = c.in-Some.ensures;
        written = written (played y) (bounded y) _ _ c.requires.state c.requires.phase _ _ _ g.entries;
        zeros = omega (arith, zeros_kept (played y) (bounded y) _ _ c.requires.state c.requires.phase c.args.self.now c.give.new.self _ g.entries refl e);
      },
    )

pub returns-in-None : goal.returns-in-None
returns-in-None c =
    let y = c.args.seat.now in
    let g = c.give-in-None.ensures in (
      g.sets,
      record {
        stuck = c.in-None.ensures;
        written = written (played y) (bounded y) _ _ c.requires.state c.requires.phase _ _ _ g.entries;
        zeros = zeros_fall (played y) (bounded y) _ _ c.requires.state c.requires.phase c.args.self.now c.give-in-None.new.self _ g.entries (omega arith);
      },
    )
