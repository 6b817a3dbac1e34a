use Rattle.std.proofs.Common.{rules}
use Rattle.planning.proofs.PlanLaws.{planned}
use Rattle.planning.proofs.plans.Plans.make.Goals as goal

pub returns : goal.returns
returns c =
    planned c.args.bytes.now c.args.terms c.in-Ok.bay c.in-Ok-sign.deal c.in_ok-make_plan.field-0 c.in_ok-make_plan-2.field-0
    (search rules) c.in-Ok.ensures.value (search rules) c.in-Ok-sign.ensures.value (search rules) (search rules)
