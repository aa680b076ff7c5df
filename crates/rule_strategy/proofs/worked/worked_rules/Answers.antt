use Rattle.std.proofs.Common.{refl}
use Rattle.rule_strategy.proofs.OnLiterals.{plan_on_literals}
use Rattle.rule_strategy.proofs.worked.worked_rules.Goals as goal

pub returns-clause-most : goal.returns-clause-most
unfolding plan_on_literals
returns-clause-most c = refl

pub returns-clause-length : goal.returns-clause-length
unfolding plan_on_literals
returns-clause-length c = refl

pub returns-clause-not_taken : goal.returns-clause-not_taken
unfolding plan_on_literals
returns-clause-not_taken c = refl

pub returns-clause-late : goal.returns-clause-late
unfolding plan_on_literals
returns-clause-late c = refl

pub returns-clause-limit : goal.returns-clause-limit
unfolding plan_on_literals
returns-clause-limit c = refl

pub returns-clause-tables : goal.returns-clause-tables
unfolding plan_on_literals
returns-clause-tables c = refl

pub returns-clause-in_order : goal.returns-clause-in_order
unfolding plan_on_literals
returns-clause-in_order c = refl

pub returns-clause-second : goal.returns-clause-second
unfolding plan_on_literals
returns-clause-second c = refl
