use Rattle.std.proofs.Common.{◌++◌, sym, codes, decimal, string_bytes, vec_items}
use Rattle.reading.specs.Records.{parts_in, record_fault}
use Rattle.planning.specs.Lines.{side_lines, table_of}
use Rattle.planning.proofs.LineLaws.{behind, three}
use Rattle.planning.proofs.plans.Plan.add.Goals as goal

pub returns-in_ok-add_record-in-Ok : goal.returns-in_ok-add_record-in-Ok
returns-in_ok-add_record-in-Ok c =
    let xs = vec_items c.args.self.now.record in
    let table = table_of (record_fault xs) (parts_in xs) in
    let first = codes "from anywhere that it keeps, a goal in at most " in
    let last = codes " ticks\n" in
    behind (string_bytes c.args.text.now) (string_bytes c.writeln.new.self) (string_bytes c.add_record.new.text) (side_lines c.args.self.now) (first ++ (decimal c.in-Ok.bound ++ last)) table
    (rw c.as_slice.ensures.value at c.in_ok-add_record-in-Ok.ensures) c.in_ok-writeln-in-Ok.ensures.bytes
    (rw c.in-Ok.is (sym (three first (decimal c.in-Ok.bound) last table)))
