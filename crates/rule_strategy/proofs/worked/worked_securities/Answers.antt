use Rattle.std.proofs.Common.{refl}
use Rattle.rule_strategy.proofs.OnLiterals.{plan_on_literals}
use Rattle.rule_strategy.proofs.worked.worked_securities.Goals as goal

pub returns-clause-no_array : goal.returns-clause-no_array
unfolding plan_on_literals
returns-clause-no_array c = refl

pub returns-clause-no_table : goal.returns-clause-no_table
unfolding plan_on_literals
returns-clause-no_table c = refl

pub returns-clause-most : goal.returns-clause-most
unfolding plan_on_literals
returns-clause-most c = refl

pub returns-clause-divides : goal.returns-clause-divides
unfolding plan_on_literals
returns-clause-divides c = refl

pub returns-clause-hours : goal.returns-clause-hours
unfolding plan_on_literals
returns-clause-hours c = refl

pub returns-clause-daily : goal.returns-clause-daily
unfolding plan_on_literals
returns-clause-daily c = refl

pub returns-clause-twice : goal.returns-clause-twice
unfolding plan_on_literals
returns-clause-twice c = refl

pub returns-clause-first : goal.returns-clause-first
unfolding plan_on_literals
returns-clause-first c = refl

pub returns-clause-top : goal.returns-clause-top
unfolding plan_on_literals
returns-clause-top c = refl
