use Rattle.std.proofs.Common.{refl}
use Rattle.clock_feeds.specs.Bars.{bar_at}
use Rattle.clock_steps.specs.Walks.{walk}
use Rattle.exchange_hours.specs.Grid.{is_grid_end}
use Rattle.exchange_hours.specs.Sessions.{session}
use Rattle.clock_feeds.specs.Known.{bars_by}
use Rattle.clock_feeds.proofs.worked.bars_up_to_a_moment.Goals as goal

pub returns : goal.returns
unfolding bars_by walk bar_at is_grid_end session
returns c = refl
