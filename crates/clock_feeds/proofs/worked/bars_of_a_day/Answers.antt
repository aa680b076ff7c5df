use Rattle.std.proofs.Common.{refl}
use Rattle.clock_feeds.specs.Bars.{bar_at}
use Rattle.exchange_hours.specs.Grid.{is_grid_end}
use Rattle.exchange_hours.specs.Sessions.{session}
use Rattle.clock_feeds.proofs.worked.bars_of_a_day.Goals as goal

pub returns-clause-filled : goal.returns-clause-filled
unfolding bar_at is_grid_end session
returns-clause-filled c = refl

pub returns-clause-malformed : goal.returns-clause-malformed
unfolding bar_at is_grid_end session
returns-clause-malformed c = refl

pub returns-clause-blocked : goal.returns-clause-blocked
unfolding bar_at is_grid_end session
returns-clause-blocked c = refl
