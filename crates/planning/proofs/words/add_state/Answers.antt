use Rattle.std.proofs.Common.{◌+◌, ◌++◌, codes, decimal, string_bytes}
use Rattle.reading.specs.Records.{parts_of}
use Rattle.planning.specs.Lines.{action, state_lines}
use Rattle.planning.proofs.LineLaws.{no_phase, phase_more, behind}
use Rattle.planning.proofs.words.add_state.Goals as goal

pub loop-phase-init : goal.loop-phase-init
loop-phase-init c = no_phase (parts_of c.args.table.now) c.args.state (string_bytes c.args.text.now)

pub loop-phase-preserved : goal.loop-phase-preserved
loop-phase-preserved c =
    let r = parts_of c.args.table.now in
    let s = c.args.state in
    let p = c.loop-phase.phase-counter in
    behind (string_bytes c.args.text.now) (string_bytes c.loop-phase.text) (string_bytes c.writeln.new.self) (state_lines r s (p + 1)) (state_lines r s p)
    (codes "  state " ++ (decimal s ++ (codes ", phase " ++ (decimal p ++ (codes ": " ++ (action c.choice.result c.rank.result ++ codes "\n"))))))
    c.in_ok-writeln.ensures.bytes c.loop-phase.invariant (rw (c.choice.ensures, c.rank.ensures) (phase_more r s p))
