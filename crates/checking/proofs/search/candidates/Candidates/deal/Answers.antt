use Rattle.std.proofs.Common.{ap, ◌∙◌}
use Rattle.reading.specs.declared.sides.Sides.{Sides}
use Rattle.games.specs.Signings.{signing_fault}
use Rattle.checking.specs.Searching.{terms_of}
use Rattle.checking.proofs.CandidateLaws.{candidate_signs, signed_ok}
use Rattle.checking.proofs.search.candidates.Candidates.deal.Goals as goal

pub unwrap-requires : goal.unwrap-requires
unwrap-requires c =
    let z = c.args.self.now.table.now.sizes in
    signed_ok c.sign.result (c.sign.ensures.first ∙ ap (λ (s : Sides _). signing_fault z.phases z.signals.first z.signals.second (terms_of s)) c.at-first.ensures ∙ candidate_signs z c.args.place c.requires)
