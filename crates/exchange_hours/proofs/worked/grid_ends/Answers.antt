use Rattle.std.proofs.Common.{refl}
use Rattle.exchange_hours.specs.Sessions.{session}
use Rattle.exchange_hours.specs.Grid.{is_grid_end, is_closing}
use Rattle.exchange_hours.proofs.worked.grid_ends.Goals as goal

pub returns-clause-minutes : goal.returns-clause-minutes
unfolding session is_grid_end is_closing
returns-clause-minutes c = refl

pub returns-clause-whole_hours : goal.returns-clause-whole_hours
unfolding session is_grid_end is_closing
returns-clause-whole_hours c = refl

pub returns-clause-day : goal.returns-clause-day
unfolding session is_grid_end is_closing
returns-clause-day c = refl

pub returns-clause-closing : goal.returns-clause-closing
unfolding session is_grid_end is_closing
returns-clause-closing c = refl
