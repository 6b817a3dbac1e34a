use Rattle.std.proofs.Common.{◌≡◌, ◌/◌, ◌^◌, ◌≤◌, rules, inl, inr, arith, pow_mono}
use Rattle.std.proofs.lemmas.Bool.{cases_lt}
use Rattle.reading.proofs.Bits.{shift_none}
use Rattle.games.proofs.sets.from_bit.Goals as goal

pub returns : goal.returns
returns c = elim (cases_lt c.args.bit 32) [ inl l ↦ search rules | inr l ↦ past l ]
  where
    past : 32 ≤ c.args.bit → c.unwrap_or.result ≡ c.args.set / 2 ^ c.args.bit
    past l =
        let h : 2 ^ 32 ≤ 2 ^ c.args.bit = pow_mono l in
        let z : c.args.set / 2 ^ c.args.bit ≡ 0 = shift_none c.args.set c.args.bit (omega (arith, c.ranges.set.fits, h)) in
        rw z (search rules)
