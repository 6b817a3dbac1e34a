use Rattle.std.proofs.Common.{rules, ◌≡◌, None, refl, sym, ap, ◌∙◌}
use Rattle.games.specs.Deals.{told, terms_fault, first_gap}
use Rattle.games.specs.declared.deal.talk.Talk.{Talk}
use Rattle.games.specs.Signings.{refused, signing_fault}
use Rattle.games.proofs.deal.signing.sign.Goals as goal

pub returns-clause-first : goal.returns-clause-first
returns-clause-first c =
    let z = c.args.table.now.sizes in
    let s = c.args.terms in
    let r = c.in_ok-reply.reply in
    let last : refused c.map_err-3.result ≡ told c.sign.result = search rules in
    let bid : told c.bid.result ≡ None = search rules in
    let reply : told c.reply.result ≡ None = search rules in
    let first : terms_fault z.phases z.signals.first z.signals.second s.first ≡ None = search rules in
    let b = c.in_ok-bid.bid in
    let talk : b.talk ≡ c.open.result = search rules in
    let sizes : b.talk.sizes ≡ z = ap (λ (t : Talk). t.sizes) talk ∙ c.open.ensures in
    let second : terms_fault z.phases z.signals.second z.signals.first s.second ≡ None = rw sizes at (sym c.reply.ensures.first ∙ reply) in
    let gap : first_gap r.bid.talk.sizes.phases r.bid.terms r.terms ≡ first_gap z.phases s.first s.second = search rules in
    let whole : signing_fault z.phases z.signals.first z.signals.second s ≡ first_gap z.phases s.first s.second = rw (first, second) refl in
    last ∙ c.sign.ensures.first ∙ gap ∙ sym whole
