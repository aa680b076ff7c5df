use Rattle.rule_lang.proofs.OverCloses.{number-is, truth-is}
use Rattle.rule_lang.proofs.laws.windows_are_over_closes.Goals as goal

pub returns-clause-number : goal.returns-clause-number
returns-clause-number c = number-is

pub returns-clause-truth : goal.returns-clause-truth
returns-clause-truth c = truth-is
