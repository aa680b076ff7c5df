-- The files of a feed, by their numbers.
use Rattle.std.specs.Prelude.{ℕ, ◌+◌, ◌-◌, Bool, nat_lt, ℤ, pos, negsuc, ◌-ℤ◌, List, [], ◌∷◌, filter, Option, Some, None, is_some}
use Rattle.std.specs.List.{range_with_len}
use Rattle.lean_fixed.specs.Moments.{day_of as moment_day}
use Rattle.lean_fixed.specs.declared.resolution.Resolution.TheVariants.{Minute, Hour, Daily}
use Rattle.lean_fixed.specs.declared.time.Window.{Window}
use Rattle.lean_items.specs.declared.feed_key.FeedKey.{FeedKey}
use Rattle.lean_items.specs.declared.feed_key.FeedKind.{FeedKind}
use Rattle.lean_items.specs.declared.feed_key.FeedKind.TheVariants.{Coarse, Equity}
use Rattle.exchange_hours.specs.Entries.{Entries}
use Rattle.exchange_hours.specs.Sessions.{session}

-- a day, or day 0 in place of one before 1970-01-01
abbrev pub from_1970 : ℤ → ℕ
from_1970 (pos day) = day
from_1970 (negsuc _) = 0

-- the day of a moment, or day 0
abbrev pub day_of : ℤ → ℕ
day_of moment = moment_day (from_1970 moment)

-- how many days there are from 1970-01-01 to a day
abbrev pub count_to : ℤ → ℕ
count_to (pos day) = day + 1
count_to (negsuc _) = 0

-- the days from one to another, both included
abbrev pub days : ℕ → ℤ → List ℕ
days first last = range_with_len first (count_to last - first)

abbrev pub has_session : Entries → ℕ → Bool
has_session hours day = is_some (session hours day)

-- The files of a kind of feed that starts at a moment. A security has a minute file for each day with a session, from
-- the day of the start to the window's last one. A coarse file is read on the day after its own: there is one for each
-- day from the day before the window's first to the day before its last. The number of these is their day, and an hour
-- or a daily file is one for all days.
abbrev pub files_of : FeedKind → ℤ → Window → Entries → List ℕ
files_of Coarse start window hours = days (from_1970 (window.first.0 -ℤ pos 1)) (window.last.0 -ℤ pos 1)
files_of (Equity _ Minute) start window hours = filter (has_session hours) (days (day_of start) window.last.0)
files_of (Equity _ Hour) start window hours = 0 ∷ []
files_of (Equity _ Daily) start window hours = 0 ∷ []

-- the files of a feed, in the order in which they are read
abbrev pub files : FeedKey → Window → Entries → List ℕ
files key window hours = files_of key.kind key.start.0 window hours

-- all of them, or those past a file
abbrev pub files_after : FeedKey → Window → Entries → Option ℕ → List ℕ
files_after key window hours None = files key window hours
files_after key window hours (Some file) = filter (nat_lt file) (files key window hours)
