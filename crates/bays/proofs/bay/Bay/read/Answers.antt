use Rattle.std.proofs.Common.{rules, ◌≡◌, subst}
use Rattle.reading.specs.PhaseTables.{table_in, table_of}
use Rattle.games.specs.WatchedSheets.{Plays}
use Rattle.bays.specs.Inputs.{Parts, parts_in, parted}
use Rattle.bays.specs.declared.bay.Bay.{Bay}
use Rattle.bays.specs.Bays.{Holds}
use Rattle.bays.proofs.bay.Bay.read.Goals as goal

pub returns-clause-value : goal.returns-clause-value
returns-clause-value c =
    let i = c.in_ok-input.input in
    let parts : parted i ≡ parts_in c.args.bytes.now = search rules in
    let first : Plays i.machines.first.now i.rules.first.now c.in_ok-first.first = search rules in
    let second : Plays i.machines.second.now i.rules.second.now c.in_ok-second.second = search rules in
    let table : table_of c.in_ok-table.table ≡ table_in i.table.now = search rules in
    let b : Bay = record { games = record { first = c.in_ok-first.first; second = c.in_ok-second.second }; table = c.in_ok-table.table } in
    subst (λ (p : Parts). Holds p b) parts (record { first = first; second = second; table = table })
