use Rattle.std.proofs.Common.{rules, ◌^◌, pow_mono, ◌≤◌, refl, arith}
use Rattle.checking.proofs.PromiseLaws.{one_set}
use Rattle.checking.proofs.search.player.Player.widen.Goals as goal

pub loop-init : goal.loop-init
loop-init c =
    let k = c.signals.result in
    let some : 1 ≤ k = search rules in
    let few : k ≤ 4 = search rules in
    let sixteen : 2 ^ k ≤ 2 ^ 4 = pow_mono few in (
      c.requires.knows,
      refl,
      omega arith,
      omega arith,
      omega (arith, c.sets-sets.ensures, one_set k few some),
      omega (arith, c.sets-sets.ensures, sixteen),
    )
