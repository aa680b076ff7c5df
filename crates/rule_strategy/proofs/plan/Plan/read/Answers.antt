use Rattle.rule_strategy.proofs.PlanHolds.{valid_of}
use Rattle.rule_strategy.proofs.plan.Plan.read.Goals as goal

pub returns-clause-valid : goal.returns-clause-valid
returns-clause-valid c = valid_of c.plans_are_valid.ensures _ c.read_document.result c.read_document.ensures
