use Rattle.clock_steps.proofs.RunLemmas.{run-one, run-stopped}
use Rattle.clock_steps.proofs.laws.single_steps_and_stops.Goals as goal

pub returns-clause-one : goal.returns-clause-one
returns-clause-one g c = run-one

pub returns-clause-stopped : goal.returns-clause-stopped
returns-clause-stopped g c = run-stopped
