use Rattle.std.proofs.Common.{refl}
use Rattle.rule_strategy.proofs.OnLiterals.{plan_on_literals}
use Rattle.rule_strategy.proofs.worked.worked_settings.Goals as goal

pub returns-clause-no_toml : goal.returns-clause-no_toml
unfolding plan_on_literals
returns-clause-no_toml c = refl

pub returns-clause-no_text : goal.returns-clause-no_text
unfolding plan_on_literals
returns-clause-no_text c = refl

pub returns-clause-missing : goal.returns-clause-missing
unfolding plan_on_literals
returns-clause-missing c = refl

pub returns-clause-unknown : goal.returns-clause-unknown
unfolding plan_on_literals
returns-clause-unknown c = refl

pub returns-clause-long : goal.returns-clause-long
unfolding plan_on_literals
returns-clause-long c = refl

pub returns-clause-quoted : goal.returns-clause-quoted
unfolding plan_on_literals
returns-clause-quoted c = refl

pub returns-clause-dotted : goal.returns-clause-dotted
unfolding plan_on_literals
returns-clause-dotted c = refl

pub returns-clause-before : goal.returns-clause-before
unfolding plan_on_literals
returns-clause-before c = refl

pub returns-clause-most : goal.returns-clause-most
unfolding plan_on_literals
returns-clause-most c = refl

pub returns-clause-over : goal.returns-clause-over
unfolding plan_on_literals
returns-clause-over c = refl

pub returns-clause-no_cash : goal.returns-clause-no_cash
unfolding plan_on_literals
returns-clause-no_cash c = refl

pub returns-clause-float : goal.returns-clause-float
unfolding plan_on_literals
returns-clause-float c = refl

pub returns-clause-slippage : goal.returns-clause-slippage
unfolding plan_on_literals
returns-clause-slippage c = refl
