use Rattle.std.proofs.Common.{◌≡◌, length, map, drop, sym, ◌∙◌, rules}
use Rattle.std.proofs.lemmas.List.{length-map}
use Rattle.cell.specs.Cells.{event}
use Rattle.recordings.proofs.AnswerLaws.{all_filled}
use Rattle.recordings.proofs.replaying.answers.Goals as goal

pub returns : goal.returns
returns g c =
    let calls = c.args.calls.now in
    let many : length (map event calls) ≡ length calls = length-map calls event in
    let room : length c.as_mut_slice.result.now ≡ length calls = search rules in
    let size : c.in_ok-answers.answers.len ≡ length calls = search rules in
    all_filled _ (map event calls) c.as_mut_slice.result.now c.replay.new.answers (drop (length c.replay.new.answers) c.in_ok-answers.answers.items)
    c.replay.result c.in_ok-answers.answers.len c.replay.ensures (room ∙ sym many) (size ∙ sym many)
