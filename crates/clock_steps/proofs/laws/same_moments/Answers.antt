use Rattle.clock_steps.proofs.WalkLemmas.{walk-alike}
use Rattle.clock_steps.proofs.laws.same_moments.Goals as goal

pub returns : goal.returns
returns g c = walk-alike
