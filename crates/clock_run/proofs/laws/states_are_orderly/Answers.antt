use Rattle.clock_run.proofs.OrderlyLemmas.{moment-keeps, moments-orderly}
use Rattle.clock_run.proofs.laws.states_are_orderly.Goals as goal

pub returns-clause-moment : goal.returns-clause-moment
returns-clause-moment c = moment-keeps

pub returns-clause-states : goal.returns-clause-states
returns-clause-states c = moments-orderly
