-- A table of the hours of each day.
use Rattle.std.specs.Prelude.{ℕ, ◌+◌, ◌≡◌, List, length, Option, None}
use Rattle.std.specs.List.{slice_index_or}
use Rattle.lean_fixed.specs.Calendar.{last_day}
use Rattle.exchange_hours.specs.declared.spans.Span.{Span}
use Rattle.exchange_hours.specs.Entries.{Entries}
use Rattle.exchange_hours.specs.Sessions.{span_on, LieInDays}

-- the hours of a day in a table of them
abbrev pub span_at : List (Option Span) → ℕ → Option Span
span_at table day = slice_index_or table day None

-- the table has the hours of each day up to the last one, and none past its end; all sessions lie in their days
pub record AreSpans (hours : Entries) (table : List (Option Span)) : Type 0 where
  pub whole : length table ≡ last_day + 1
  pub each : (day : ℕ) → span_at table day ≡ span_on hours day
  pub within : LieInDays hours
