use Rattle.clock_steps.proofs.RunLemmas.{run-cut, run-front}
use Rattle.clock_steps.proofs.laws.cut_between_steps.Goals as goal

pub returns-clause-two : goal.returns-clause-two
returns-clause-two g c = run-cut

pub returns-clause-front : goal.returns-clause-front
returns-clause-front g c = run-front
