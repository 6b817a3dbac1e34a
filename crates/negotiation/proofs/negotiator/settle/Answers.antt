use Rattle.std.proofs.Common.{rules}
use Rattle.games.specs.Machines.{Model, Marks}
use Rattle.reading.specs.Sides.{both}
use Rattle.reading.specs.declared.sides.Sides.{Sides}
use Rattle.checking.specs.Searching.{Agreed}
use Rattle.negotiation.proofs.NegotiationLaws.{first_suits, second_suits, settled}
use Rattle.negotiation.proofs.negotiator.settle.Goals as goal

pub bound-requires-clause-suits : goal.bound-requires-clause-suits
bound-requires-clause-suits g c =
    let m : Sides Model = both (g.G.Machine.meaning c.args.first.now) (g.H.Machine.meaning c.args.second.now) in
    let a : Agreed m (both (g.G.Game.marks c.args.first.now) (g.H.Game.marks c.args.second.now)) c.args.table.now 65535 c.in_ok-deal.field-0 = search rules in
    first_suits m c.args.table.now c.in_ok-deal.field-0.deal 65535 a.head a.dealt.sizes

pub bound-requires-2-clause-suits : goal.bound-requires-2-clause-suits
bound-requires-2-clause-suits g c =
    let m : Sides Model = both (g.G.Machine.meaning c.args.first.now) (g.H.Machine.meaning c.args.second.now) in
    let a : Agreed m (both (g.G.Game.marks c.args.first.now) (g.H.Game.marks c.args.second.now)) c.args.table.now 65535 c.in_ok-deal.field-0 = search rules in
    second_suits m c.args.table.now c.in_ok-deal.field-0.deal 65535 a.head a.dealt.sizes

pub returns : goal.returns
returns g c =
    let m : Sides Model = both (g.G.Machine.meaning c.args.first.now) (g.H.Machine.meaning c.args.second.now) in
    let k : Sides Marks = both (g.G.Game.marks c.args.first.now) (g.H.Game.marks c.args.second.now) in
    let a : Agreed m k c.args.table.now 65535 c.in_ok-deal.field-0 = search rules in
    settled m k c.args.table.now c.in_ok-deal.field-0 c.promise.result c.promise-2.result c.bound.result c.bound-2.result a c.promise.ensures c.promise-2.ensures c.bound.ensures c.bound-2.ensures
