use Rattle.std.proofs.Common.{rules, sym, ◌∙◌, inl, inr, arith}
use Rattle.std.proofs.lemmas.Bool.{cases_lt, cases_Bool}
use Rattle.checking.proofs.snapshot.take.next_states.Goals as goal

pub returns : goal.returns
returns g c =
    let m = g.G.Machine.meaning c.args.game.now in
    λ t. elim (cases_lt t c.states.result) [
      | inl l ↦ (let k = c.of.ensures.below t l in search rules)
      | inr l ↦ elim (cases_Bool (m.move c.args.state c.args.own c.args.partner t)) [
        | inl y ↦ absurd (omega (arith, l, c.states.ensures, ((g.met.G.Machine.lawful c.args.game.now).inside _ _ _ t y).3))
        | inr n ↦ c.of.ensures.above t l ∙ sym n
      ]
    ]
