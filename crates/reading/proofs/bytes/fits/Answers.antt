use Rattle.std.proofs.Common.{◌^◌, ◌≤◌, sym, ◌∙◌, arith, pow_mono}
use Rattle.std.proofs.lemmas.Bool.{lt-ltb, le-leb}
use Rattle.reading.proofs.Bits.{shift_zero}
use Rattle.reading.proofs.bytes.fits.Goals as goal

pub returns-then-room-ge8 : goal.returns-then-room-ge8
returns-then-room-ge8 c =
    let h : 2 ^ 8 ≤ 2 ^ c.args.room = pow_mono c.if-room-ge8.true in
    le-leb _ _ c.if-room-ge8.true ∙ sym (lt-ltb _ _ (omega (arith, c.ranges.x.fits, h)))

pub returns-else-room-ge8 : goal.returns-else-room-ge8
returns-else-room-ge8 c = shift_zero c.args.x c.args.room
