use Rattle.backtest_core.proofs.MomentLemmas.{in-parts, halted-securities, halted-requests}
use Rattle.backtest_core.proofs.laws.moments_in_parts.Goals as goal

pub returns-clause-whole : goal.returns-clause-whole
returns-clause-whole c = in-parts

pub returns-clause-securities : goal.returns-clause-securities
returns-clause-securities c = halted-securities

pub returns-clause-requests : goal.returns-clause-requests
returns-clause-requests c = halted-requests
