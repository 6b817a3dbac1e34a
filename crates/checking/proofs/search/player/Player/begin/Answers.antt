use Rattle.std.proofs.Common.{rules, None, replicate, ap, ◌∙◌}
use Rattle.checking.proofs.search.player.Player.begin.Goals as goal

pub returns-clause-unknown : goal.returns-clause-unknown
returns-clause-unknown g c = c.fill.ensures.items (λ y k. search rules) ∙ ap (λ n. replicate n None) c.args.self.now.long
