use Rattle.std.proofs.Common.{rules}
use Rattle.games.specs.LiftLaws.{lift_steps}
use Rattle.games.proofs.lift.Lift.new.Goals as goal

pub returns : goal.returns
returns c = record { first = search rules; value = search rules; sizes = search rules; steps = lift_steps c.args.floors c.args.signals }
