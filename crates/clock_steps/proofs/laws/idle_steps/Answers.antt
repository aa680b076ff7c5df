use Rattle.clock_steps.proofs.RunLemmas.{run-still, run-next, run-end}
use Rattle.clock_steps.proofs.laws.idle_steps.Goals as goal

pub returns-clause-alone : goal.returns-clause-alone
returns-clause-alone g c = run-still

pub returns-clause-between : goal.returns-clause-between
returns-clause-between g c = run-next

pub returns-clause-last : goal.returns-clause-last
returns-clause-last g c = run-end
