use Rattle.clock_steps.proofs.WalkLemmas.{walk-cut}
use Rattle.clock_steps.proofs.laws.walks_in_two.Goals as goal

pub returns : goal.returns
returns g c = walk-cut
