use Rattle.std.proofs.Common.{◌≡◌, ◌++◌, string_bytes}
use Rattle.reading.specs.Records.{parts_of}
use Rattle.planning.specs.Lines.{state_lines}
use Rattle.planning.proofs.words.add_state.Given as goal

abbrev pub invariant-loop-phase : goal.invariant-loop-phase
invariant-loop-phase l = string_bytes l.text ≡ string_bytes l.fn.text ++ state_lines (parts_of l.table) l.state l.phase-counter
