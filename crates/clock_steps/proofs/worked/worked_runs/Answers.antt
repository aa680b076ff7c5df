use Rattle.std.proofs.Common.{refl}
use Rattle.clock_steps.specs.Runs.{run}
use Rattle.clock_steps.proofs.worked.worked_runs.Goals as goal

pub returns-clause-whole : goal.returns-clause-whole
unfolding run
returns-clause-whole c = refl

pub returns-clause-none : goal.returns-clause-none
unfolding run
returns-clause-none c = refl

pub returns-clause-stopped : goal.returns-clause-stopped
unfolding run
returns-clause-stopped c = refl
