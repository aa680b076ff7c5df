use Rattle.std.proofs.Common.{refl}
use Rattle.clock_feeds.specs.Bars.{bar_at}
use Rattle.exchange_hours.specs.Grid.{is_grid_end}
use Rattle.exchange_hours.specs.Sessions.{session}
use Rattle.clock_feeds.proofs.worked.slices.Goals as goal

pub returns-clause-both : goal.returns-clause-both
unfolding bar_at is_grid_end session
returns-clause-both c = refl

pub returns-clause-one : goal.returns-clause-one
unfolding bar_at is_grid_end session
returns-clause-one c = refl

pub returns-clause-none : goal.returns-clause-none
unfolding bar_at is_grid_end session
returns-clause-none c = refl

pub returns-clause-refused : goal.returns-clause-refused
unfolding bar_at is_grid_end session
returns-clause-refused c = refl
