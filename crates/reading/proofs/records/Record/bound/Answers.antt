use Rattle.std.proofs.Common.{ℕ, ◌*◌, rules, sym, ap, ◌∙◌, arith}
use Rattle.std.specs.Option.{unwrap_or}
use Rattle.std.proofs.lemmas.Iterator.{YieldsList-from_range, YieldsList-from_map}
use Rattle.std.proofs.lemmas.Iterator.Adapters.{option_map_id}
use Rattle.std.proofs.lemmas.Iterator.Consumers.{max_from_yields_List}
use Rattle.reading.specs.Records.{parts_of, kept_rank}
use Rattle.reading.proofs.FirstLaws.{largest_in_range}
use Rattle.reading.proofs.records.Record.bound.Goals as goal

pub returns : goal.returns
returns c =
    let n : ℕ = c.from.result * c.from-2.result in
    let f = kept_rank (parts_of c.args.self.now) in
    let e = sym (option_map_id c.max.result) ∙ max_from_yields_List c.map.result c.max.result c.max.ensures.ran (YieldsList-from_map _ f (YieldsList-from_range 0 n n c.map.ensures.source (omega arith)) c.map.ensures.closure (λ x r q k. search rules)) in
    c.unwrap_or.ensures ∙ ap (λ o. unwrap_or o 0) e ∙ largest_in_range n f ∙ search rules
