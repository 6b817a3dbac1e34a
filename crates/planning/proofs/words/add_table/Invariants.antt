use Rattle.std.proofs.Common.{◌≡◌, ◌++◌, string_bytes}
use Rattle.reading.specs.Records.{parts_of}
use Rattle.planning.specs.Lines.{table_lines}
use Rattle.planning.proofs.words.add_table.Given as goal

abbrev pub invariant-loop-state : goal.invariant-loop-state
invariant-loop-state l = string_bytes l.text ≡ string_bytes l.fn.text ++ table_lines (parts_of l.table) l.state
