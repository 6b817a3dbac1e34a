use Rattle.std.proofs.Common.{rules}
use Rattle.recordings.specs.Recordings.{Reads}
use Rattle.std.proofs.Common.{Ok}
use Rattle.recordings.proofs.RetellLaws.{tells}
use Rattle.recordings.proofs.replaying.text.Goals as goal

pub returns-in-Ok : goal.returns-in-Ok
returns-in-Ok c =
    let xs = c.args.bytes.now in
    let read : Reads xs (Ok c.in-Ok.recording) = search rules in
    tells xs c.in-Ok.recording c.replay.result read.0 read.1 c.replay.ensures
