use Rattle.std.proofs.Common.{rules, vec_len, refl, arith}
use Rattle.checking.proofs.PlayLaws.{bounded}
use Rattle.checking.proofs.PassLaws.{zero_least}
use Rattle.checking.proofs.ranking.Ranking.begin.Goals as goal

pub returns : goal.returns
returns c = zero_least _ (bounded c.args.seat.now) _ (vec_len c.args.self.now.entries) _ refl (omega (arith, c.args.self.now.many)) (c.fill.ensures.items (λ y k. search rules))
