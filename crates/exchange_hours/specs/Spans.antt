-- The ends of bars within one day, as minutes of that day.
use Rattle.std.specs.Prelude.{ℕ, ◌+◌, ◌%◌, ◌<◌, ◌≤◌, ◌≡◌, Option, Some, None}
use Rattle.lean_fixed.specs.declared.resolution.Resolution.{Resolution}
use Rattle.lean_fixed.specs.declared.resolution.Resolution.TheVariants.{Minute, Hour, Daily}
use Rattle.lean_fixed.specs.Moments.{minutes_per_day}
use Rattle.exchange_hours.specs.declared.entries.Segment.{Segment}
use Rattle.exchange_hours.specs.declared.spans.Span.{Span}

-- opens before it closes, and closes by the end of the day
abbrev pub IsSpan : Span → Type 0
IsSpan span = (span.opens < span.closes) × (span.closes ≤ minutes_per_day)

-- a bar of this resolution that is in session ends at this minute
abbrev pub IsEnd : Span → Resolution → ℕ → Type 0
IsEnd span Minute end = (span.opens < end) × (end ≤ span.closes)
IsEnd span Hour end = (end % 60 ≡ 0) × (span.opens < end) × (end < span.closes + 60)
IsEnd span Daily end = end ≡ span.closes

-- the least such end past a minute, or nothing where there is none
abbrev pub IsNextEnd : Span → Resolution → ℕ → Option ℕ → Type 0
IsNextEnd span resolution minute None = (end : ℕ) → IsEnd span resolution end → end ≤ minute
IsNextEnd span resolution minute (Some next) =
    IsEnd span resolution next × (minute < next) × ((end : ℕ) → IsEnd span resolution end → minute < end → next ≤ end)

-- starts before it ends, and ends by the end of the day
abbrev pub IsInOrder : Segment → Type 0
IsInOrder s = (s.start < s.end) × (s.end ≤ minutes_per_day)
