use Rattle.std.proofs.Common.{string_bytes}
use Rattle.reading.specs.Records.{parts_of}
use Rattle.planning.proofs.LineLaws.{no_state, state_more, behind}
use Rattle.planning.proofs.words.add_table.Goals as goal

pub loop-state-init : goal.loop-state-init
loop-state-init c = no_state (parts_of c.args.table.now) (string_bytes c.args.text.now)

pub loop-state-preserved : goal.loop-state-preserved
loop-state-preserved c = behind _ _ _ _ _ _ c.in_ok-add_state.ensures c.loop-state.invariant (state_more (parts_of c.args.table.now) c.loop-state.state)
