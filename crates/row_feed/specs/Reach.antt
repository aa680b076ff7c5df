-- How far a feed has come, in numbers alone.
use Rattle.std.specs.Prelude.{ℕ, ◌+◌, ◌-◌, ◌*◌, ◌/◌, Bool, if◌then◌else◌, Option, Some, None}
use Rattle.lean_fixed.specs.Calendar.{last_day}
use Rattle.lean_fixed.specs.Moments.{minutes_per_day, midnight}
use Rattle.lean_fixed.specs.declared.resolution.Resolution.{Resolution}
use Rattle.lean_fixed.specs.declared.resolution.Resolution.TheVariants.{Minute, Hour, Daily}
use Rattle.lean_items.specs.declared.feed_key.FeedKind.{FeedKind}
use Rattle.lean_items.specs.declared.feed_key.FeedKind.TheVariants.{Coarse, Equity}

-- where the rows that start before a moment end at the latest
abbrev pub reach : Resolution → ℕ → ℕ
reach Minute from = from
reach Hour from = from + 59
reach Daily from = minutes_per_day * ((from + 1439) / minutes_per_day)

-- where the rows end at the latest that a feed has given so far: they start before a moment, and stand in files up to a number
abbrev pub reach_of : FeedKind → ℕ → ℕ → ℕ
reach_of Coarse from file = midnight (file + 1)
reach_of (Equity symbol resolution) from file = reach resolution from

-- the file behind which the next one is looked for
abbrev pub after_of : Bool → ℕ → Option ℕ
after_of begun file = if begun then Some file else None

-- how many numbers a file may still have
abbrev pub files_left : Bool → ℕ → ℕ
files_left begun file = last_day + 1 - (if begun then file + 1 else 0)

-- how many lines the open file may still have, and its end
abbrev pub lines_room : Bool → ℕ → ℕ
lines_room opened number = if opened then 10_000_001 - number else 0

-- more steps than a feed has left: each takes a line or ends a file, or goes to the next file
abbrev pub room : ℕ → ℕ → ℕ
room files lines = 10_000_002 * files + lines
