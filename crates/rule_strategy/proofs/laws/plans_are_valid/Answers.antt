use Rattle.rule_strategy.proofs.PlanHolds.{plan_holds}
use Rattle.rule_strategy.proofs.laws.plans_are_valid.Goals as goal

pub returns : goal.returns
returns c = plan_holds c.read_is_typed.ensures
