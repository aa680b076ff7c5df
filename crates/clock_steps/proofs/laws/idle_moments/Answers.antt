use Rattle.clock_steps.proofs.WalkLemmas.{walk-idle, walk-next, walk-none}
use Rattle.clock_steps.proofs.laws.idle_moments.Goals as goal

pub returns-clause-skipped : goal.returns-clause-skipped
returns-clause-skipped g c = walk-idle

pub returns-clause-next : goal.returns-clause-next
returns-clause-next g c = walk-next

pub returns-clause-none : goal.returns-clause-none
returns-clause-none g c = walk-none
