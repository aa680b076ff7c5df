-- The session of a day by the entries of an hours file.
use Rattle.std.specs.Prelude.{ℕ, ◌+◌, ◌<◌, ◌≤◌, min, max, Bool, false, ◌&&◌, ◌||◌, ◌==◌, nat_lt, nat_le, if◌then◌else◌, ℤ, pos, negsuc, List, fold, map, filter, Option, Some, None, option_map, IfSome}
use Rattle.std.specs.List.{list_any}
use Rattle.std.specs.Option.{option_map_or}
use Rattle.lean_fixed.specs.Calendar.{last_day, weekday}
use Rattle.lean_fixed.specs.declared.time.Moment.{Moment}
use Rattle.lean_fixed.specs.Moments.{midnight, day_of}
use Rattle.exchange_hours.specs.declared.entries.Segment.{Segment}
use Rattle.exchange_hours.specs.declared.entries.EarlyClose.{EarlyClose}
use Rattle.exchange_hours.specs.declared.spans.Span.{Span}
use Rattle.exchange_hours.specs.declared.sessions.Session.{Session}
use Rattle.exchange_hours.specs.Entries.{Entries}

-- 24:00 of the last day
abbrev pub end_of_days : ℕ
end_of_days = midnight (last_day + 1)

-- a part of a day, made so wide that a segment lies in it
abbrev pub widened : Option Span → Segment → Option Span
widened None s = Some (record { opens = s.start; closes = s.end })
widened (Some span) s = Some (record { opens = min span.opens s.start; closes = max span.closes s.end })

-- when a weekday's sessions open and close: at the least start and the greatest end of its segments of the state `market`
abbrev pub usual_span : List Segment → ℕ → Option Span
usual_span segments day_of_week =
    fold widened None (filter (λ s. (s.weekday == day_of_week) && s.is_market) segments)

abbrev pub lesser : Option ℕ → ℕ → Option ℕ
lesser None n = Some n
lesser (Some m) n = Some (min m n)

-- the minute at which a day closes early: of several the least
abbrev pub early_close : List EarlyClose → ℕ → Option ℕ
early_close closes day = fold lesser None (map (λ c. c.minute) (filter (λ c. c.day == day) closes))

-- Hours that end at an early close. One at or before the opening leaves none, and one after the closing changes nothing.
abbrev pub shortened : Option Span → Option ℕ → Option Span
shortened None minute = None
shortened (Some span) None = Some span
shortened (Some span) (Some minute) =
    if nat_le minute span.opens then None else Some (record { opens = span.opens; closes = min span.closes minute })

-- the minutes of a day between which the exchange is open
abbrev pub span_on : Entries → ℕ → Option Span
span_on hours day =
    if nat_lt last_day day || list_any (λ h. h == day) hours.holidays then None
    else shortened (usual_span hours.segments (weekday day)) (early_close hours.early_closes day)

-- the moments from an opening to a closing
pub record Interval : Type 0 where
  pub opens : ℕ
  pub closes : ℕ

-- a part of the day that begins at the moment `midnight`
abbrev pub interval_from : ℕ → Span → Interval
interval_from midnight span = record { opens = midnight + span.opens; closes = midnight + span.closes }

-- the session of a day
unfoldable pub session : Entries → ℕ → Option Interval
session hours day = option_map (interval_from (midnight day)) (span_on hours day)

-- it opens before it closes, and both lie in the day
abbrev pub LiesInDay : ℕ → Interval → Type 0
LiesInDay day s = (midnight day ≤ s.opens) × (s.opens < s.closes) × (s.closes ≤ midnight (day + 1))

-- each session lies in its day
abbrev pub LieInDays : Entries → Type 0
LieInDays hours = (day : ℕ) → IfSome (session hours day) (LiesInDay day)

-- at or after the opening, and before the closing
abbrev pub holds_moment : ℕ → Interval → Bool
holds_moment t s = nat_le s.opens t && nat_lt t s.closes

-- a moment is open where it lies in the session of its day
abbrev pub is_open : Entries → ℕ → Bool
is_open hours t = option_map_or (holds_moment t) (session hours (day_of t)) false

-- the same of a moment that may lie before 1970, when nothing is open
abbrev pub is_open_at : Entries → ℤ → Bool
is_open_at hours (pos t) = is_open hours t
is_open_at hours (negsuc _) = false

-- a moment from 1970 on, and a session, as the program gives them
abbrev pub moment : ℕ → Moment
moment t = record { 0 = pos t }

abbrev pub session_value : Interval → Session
session_value s = record { opens = moment s.opens; closes = moment s.closes }
