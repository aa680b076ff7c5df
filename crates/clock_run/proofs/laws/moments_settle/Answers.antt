use Rattle.clock_run.proofs.SettleLemmas.{moment-settles, opening-settled}
use Rattle.clock_run.proofs.laws.moments_settle.Goals as goal

pub returns-clause-settles : goal.returns-clause-settles
returns-clause-settles c = moment-settles

pub returns-clause-opening : goal.returns-clause-opening
returns-clause-opening c = opening-settled
