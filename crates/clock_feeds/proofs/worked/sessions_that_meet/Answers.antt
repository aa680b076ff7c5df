use Rattle.std.proofs.Common.{refl}
use Rattle.clock_feeds.specs.Raw.{equity_raw}
use Rattle.clock_feeds.specs.Feeds.{bars_of}
use Rattle.equity_csv.specs.Rows.{minute_row}
use Rattle.exchange_hours.specs.Sessions.{session}
use Rattle.lean_fixed.specs.Calendar.{civil_of, carried_through}
use Rattle.lean_fixed.specs.Printed.{day_text}
use Rattle.feed_paths.specs.Paths.{path_of}
use Rattle.clock_feeds.proofs.worked.sessions_that_meet.Goals as goal

pub returns : goal.returns
unfolding bars_of equity_raw minute_row session path_of day_text civil_of carried_through
returns c = refl
