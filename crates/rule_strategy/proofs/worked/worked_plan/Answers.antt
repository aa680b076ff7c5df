use Rattle.std.proofs.Common.{refl}
use Rattle.rule_strategy.proofs.OnLiterals.{plan_on_literals}
use Rattle.rule_strategy.proofs.worked.worked_plan.Goals as goal

pub returns : goal.returns
unfolding plan_on_literals
returns c = refl
