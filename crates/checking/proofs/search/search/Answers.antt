use Rattle.std.proofs.Common.{rules, ◌≡◌, true, leb, arith}
use Rattle.reading.specs.Bytes.{within}
use Rattle.games.specs.Machines.{Model}
use Rattle.reading.specs.Sides.{both}
use Rattle.reading.specs.declared.sides.Sides.{Sides}
use Rattle.checking.specs.Searching.{meet, how_many}
use Rattle.checking.proofs.SearchingLaws.{agreed, spent, none_at_all, untold}
use Rattle.checking.proofs.search.search.Goals as goal

pub first_workable-requires-clause-knows : goal.first_workable-requires-clause-knows
first_workable-requires-clause-knows g c = c.begin.ensures.unknown c.args.table.now

pub returns-in-Some : goal.returns-in-Some
returns-in-Some g c =
    let m : Sides Model = both (g.G.Machine.meaning c.args.first.now) (g.H.Machine.meaning c.args.second.now) in
    let t = c.args.table.now in
    let a : meet m t.sizes ≡ true = search rules in
    let b : within 1 65535 c.args.allowance ≡ true = search rules in
    let d : leb (how_many t.sizes) 65535 ≡ true = search rules in
    agreed m (both (g.G.Game.marks c.args.first.now) (g.H.Game.marks c.args.second.now)) t c.begin.new.self c.begin.ensures.first c.begin.ensures.second c.args.allowance c.min.result c.in-Some.place c.deal.result
    (untold m t.sizes c.args.allowance a b d) (omega (arith, c.min.ensures)) (omega (arith, c.min.ensures, c.count-count.ensures)) c.in-Some.ensures c.deal.ensures

pub returns-then-allowance-count : goal.returns-then-allowance-count
returns-then-allowance-count g c =
    let m : Sides Model = both (g.G.Machine.meaning c.args.first.now) (g.H.Machine.meaning c.args.second.now) in
    let t = c.args.table.now in
    let a : meet m t.sizes ≡ true = search rules in
    let b : within 1 65535 c.args.allowance ≡ true = search rules in
    let d : leb (how_many t.sizes) 65535 ≡ true = search rules in
    spent m (both (g.G.Game.marks c.args.first.now) (g.H.Game.marks c.args.second.now)) t c.begin.new.self c.begin.ensures.first c.begin.ensures.second c.args.allowance c.min.result
    (untold m t.sizes c.args.allowance a b d) (omega (arith, c.if-allowance-count.true, c.count-count.ensures)) (omega (arith, c.min.ensures, c.if-allowance-count.true)) (search rules)

pub returns-else-allowance-count : goal.returns-else-allowance-count
returns-else-allowance-count g c =
    let m : Sides Model = both (g.G.Machine.meaning c.args.first.now) (g.H.Machine.meaning c.args.second.now) in
    let t = c.args.table.now in
    let a : meet m t.sizes ≡ true = search rules in
    let b : within 1 65535 c.args.allowance ≡ true = search rules in
    let d : leb (how_many t.sizes) 65535 ≡ true = search rules in
    none_at_all m (both (g.G.Game.marks c.args.first.now) (g.H.Game.marks c.args.second.now)) t c.begin.new.self c.begin.ensures.first c.begin.ensures.second c.args.allowance c.min.result c.count-count.result
    (untold m t.sizes c.args.allowance a b d) c.count-count.ensures (omega (arith, c.if-allowance-count.false)) (omega (arith, c.min.ensures, c.if-allowance-count.false)) (search rules)
