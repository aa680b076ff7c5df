use Rattle.clock_steps.proofs.RunLemmas.{run-same}
use Rattle.clock_steps.proofs.laws.same_steps.Goals as goal

pub returns : goal.returns
returns g c = run-same
