use Rattle.std.proofs.Common.{◌≡◌, min, ap, ◌∙◌, arith}
use Rattle.std.proofs.lemmas.List.{length-take}
use Rattle.checking.specs.Solutions.{record_size}
use Rattle.negotiation.proofs.NegotiationLaws.{solves, record_fits}
use Rattle.negotiation.proofs.negotiator.bound.Goals as goal

pub unwrap-requires : goal.unwrap-requires
unwrap-requires g c =
    let m = g.G.Machine.meaning c.args.game.now in
    let t = c.args.table.now in
    let size : c.length-size.result ≡ record_size m.states t.sizes.phases = c.length-size.ensures ∙ ap (λ i. record_size i c.phases.result) c.states.ensures ∙ ap (record_size m.states) c.phases.ensures in
    let least : min c.length-size.result 6148 ≡ record_size m.states t.sizes.phases = omega (arith, size, record_fits m t (g.met.G.Machine.lawful c.args.game.now)) in
    solves m (g.G.Game.marks c.args.game.now) t c.args.deal.now c.args.side _ _ c.solve.result c.solve.ensures c.requires.suits (length-take c.length-size.result _ ∙ least) c.requires.controlled
