use Rattle.backtest_core.proofs.StartLemmas.{too-many}
use Rattle.backtest_core.proofs.MomentLemmas.{limit-of-requests}
use Rattle.backtest_core.proofs.laws.limits_are_those_of_moments.Goals as goal

pub returns-clause-securities : goal.returns-clause-securities
returns-clause-securities c = too-many

pub returns-clause-requests : goal.returns-clause-requests
returns-clause-requests c = limit-of-requests
