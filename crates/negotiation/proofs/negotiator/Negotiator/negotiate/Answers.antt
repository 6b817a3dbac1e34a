use Rattle.std.proofs.Common.{rules, ◌≡◌, None, Err, Ok}
use Rattle.std.proofs.lemmas.Result.{err_from_is_err_and}
use Rattle.bays.specs.Inputs.{parts_in}
use Rattle.bays.specs.Bays.{Holds, bay_fault}
use Rattle.negotiation.proofs.NegotiationLaws.{sheets_settle}
use Rattle.negotiation.proofs.negotiator.Negotiator.negotiate.Goals as goal

pub returns-in_err-settlement : goal.returns-in_err-settlement
returns-in_err-settlement c =
    let xs = c.args.bytes.now in
    let p = err_from_is_err_and c.from_residual-in_err-settlement.result c.from_residual-in_err-settlement.ensures.1 in
    let lawful : bay_fault xs ≡ None = search rules in
    let holds : Holds (parts_in xs) c.in_ok-bay.bay = search rules in
    rw (p.1, p.2) (lawful, sheets_settle (parts_in xs) c.in_ok-bay.bay (Err c.in_err-settlement.field-0.0) holds (search rules))

pub returns : goal.returns
returns c =
    let xs = c.args.bytes.now in
    let lawful : bay_fault xs ≡ None = search rules in
    let holds : Holds (parts_in xs) c.in_ok-bay.bay = search rules in
    (lawful, sheets_settle (parts_in xs) c.in_ok-bay.bay (Ok c.in_ok-settlement.settlement) holds (search rules))
