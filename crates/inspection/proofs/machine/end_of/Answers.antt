use Rattle.std.proofs.Common.{rules, ◌≡◌}
use Rattle.std.proofs.lemmas.Iterator.{first_from_Range}
use Rattle.std.specs.Prelude.{⊤}
use Rattle.reading.specs.MachineSheets.{sheet_of}
use Rattle.inspection.specs.Sources.{state_at}
use Rattle.inspection.proofs.machine.end_of.Goals as goal

pub returns-clause-before : goal.returns-clause-before
returns-clause-before c =
    let found = first_from_Range _ _ _ c.find.result (λ _. ⊤) (λ i. state_at (sheet_of c.args.sheet.now) i ≡ c.args.state) c.find.ensures.ran (λ x q k. search rules) (λ x q k. search rules) in
    search (found, rules)
