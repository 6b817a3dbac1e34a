use Rattle.cell.proofs.CallLaws.{offer_heard, ask_heard}
use Rattle.cell.proofs.cell.Cell.hear.Goals as goal

pub returns-in-Offer-clause-heard : goal.returns-in-Offer-clause-heard
returns-in-Offer-clause-heard g c = offer_heard c.args.call.now c.in-Offer.offer c.as_offer.result c.in-Offer.is c.as_offer.ensures c.offer.ensures.heard

pub returns-in-Ask-clause-heard : goal.returns-in-Ask-clause-heard
returns-in-Ask-clause-heard g c = ask_heard c.args.call.now c.in-Ask.question c.in-Ask.is c.ask.ensures
