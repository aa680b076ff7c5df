use Rattle.clock_run.proofs.IdleLemmas.{idle-rests}
use Rattle.clock_run.proofs.laws.idle_moments.Goals as goal

pub returns : goal.returns
returns c = idle-rests
