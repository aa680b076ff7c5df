use Rattle.std.proofs.Common.{refl}
use Rattle.clock_feeds.specs.Raw.{equity_raw}
use Rattle.clock_feeds.specs.Feeds.{bars_of}
use Rattle.equity_csv.specs.Rows.{minute_row}
use Rattle.exchange_hours.specs.Sessions.{session}
use Rattle.clock_feeds.proofs.worked.minutes_of_a_session.Goals as goal

pub returns : goal.returns
unfolding bars_of equity_raw minute_row session
returns c = refl
