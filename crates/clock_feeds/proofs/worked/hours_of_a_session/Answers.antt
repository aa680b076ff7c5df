use Rattle.std.proofs.Common.{refl}
use Rattle.clock_feeds.specs.Raw.{equity_raw}
use Rattle.clock_feeds.specs.Feeds.{bars_of}
use Rattle.equity_csv.specs.Rows.{dated_row}
use Rattle.exchange_hours.specs.Sessions.{session}
use Rattle.jiff_core.specs.Calendar.{days_from_civil, day_count, days_of_years, days_of_months}
use Rattle.clock_feeds.proofs.worked.hours_of_a_session.Goals as goal

pub returns : goal.returns
unfolding bars_of equity_raw dated_row session days_from_civil day_count days_of_years days_of_months
returns c = refl
