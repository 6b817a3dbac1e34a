use Rattle.std.proofs.Common.{rules, refl}
use borrow.Author.Tests.{tests}
use Rattle.std.proofs.lemmas.Iterator.{first_from_find, YieldsList-from_range}
use Rattle.checking.specs.Snapshots.{played}
use Rattle.checking.specs.Solving.{Leading}
use Rattle.checking.proofs.PlayLaws.{Astray, first_found}
use Rattle.checking.proofs.seat.leads.Seat+Snapshot.first.Goals as goal

pub returns : goal.returns
returns c =
    let leading = Leading (played c.args.self.now) c.args.sets.now c.args.at.state c.args.at.phase in
    let astray = Astray c.args.self.now c.args.sets.now c.args.at.state c.args.at.phase in
    first_found c.args.self.now c.args.sets.now _ _ c.find.result
    (first_from_find _ _ _ leading astray c.find.ensures.ran (YieldsList-from_range 0 4 4 refl refl) (λ x q k. search (rules, tests)) (λ x q k. search (rules, tests)))
