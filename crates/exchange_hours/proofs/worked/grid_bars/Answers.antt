use Rattle.std.proofs.Common.{refl}
use Rattle.exchange_hours.specs.Sessions.{session}
use Rattle.exchange_hours.proofs.worked.grid_bars.Goals as goal

pub returns-clause-minutes : goal.returns-clause-minutes
unfolding session
returns-clause-minutes c = refl

pub returns-clause-whole_hours : goal.returns-clause-whole_hours
unfolding session
returns-clause-whole_hours c = refl

pub returns-clause-day : goal.returns-clause-day
unfolding session
returns-clause-day c = refl
