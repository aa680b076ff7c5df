use Rattle.clock_run.proofs.WorldLemmas.{bars-go-on, stays-blocked, begins-fresh}
use Rattle.clock_run.proofs.laws.worlds_go_on.Goals as goal

pub returns-clause-bars : goal.returns-clause-bars
returns-clause-bars c = bars-go-on

pub returns-clause-blocked : goal.returns-clause-blocked
returns-clause-blocked c = stays-blocked

pub returns-clause-fresh : goal.returns-clause-fresh
returns-clause-fresh c = begins-fresh
