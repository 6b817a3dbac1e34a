use Rattle.std.proofs.Common.{◌∙◌, None, refl, rules}
use Rattle.recordings.specs.declared.recording.Calls.{Calls}
use Rattle.recordings.specs.Calls.{call_said}
use Rattle.recordings.specs.Marks.{Keeps}
use Rattle.recordings.proofs.MarkLaws.{none_kept, one_kept}
use Rattle.recordings.proofs.recording.Calls.read.Goals as goal

pub loop-at-init : goal.loop-at-init
loop-at-init c =
    let none : Calls = record { marks = c.new.result; put = c.new-2.result; damage = None } in
    (none_kept c.args.bytes.now c.args.start none c.new.ensures.items c.new-2.ensures.items, refl)

pub loop-at-preserved : goal.loop-at-preserved
loop-at-preserved c =
    let k : Keeps (call_said c.in-Ok.call) c.loop-at.calls c.keep.new.self = search rules in (
      one_kept c.args.bytes.now c.args.start c.loop-at.calls c.keep.new.self c.loop-at.at c.in-Ok.end (call_said c.in-Ok.call)
          c.loop-at.invariant.0 c.loop-at-test.true (search rules) (search rules) (search rules) k,
      k.adds.damage ∙ c.loop-at.invariant.1,
    )
