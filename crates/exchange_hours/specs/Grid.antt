-- The bars that would be in session, and the moments at which they end.
use Rattle.std.specs.Prelude.{ℕ, ◌+◌, ◌-◌, ◌%◌, ◌≡◌, ◌==◌, Bool, true, false, ◌&&◌, nat_lt, Option, Some, option_map}
use Rattle.std.specs.Option.{option_map_or}
use Rattle.lean_fixed.specs.declared.resolution.Resolution.{Resolution}
use Rattle.lean_fixed.specs.declared.resolution.Resolution.TheVariants.{Minute, Hour, Daily}
use Rattle.lean_fixed.specs.Moments.{midnight, day_of, minute_of_day}
use Rattle.exchange_hours.specs.Entries.{Entries}
use Rattle.exchange_hours.specs.Sessions.{session, Interval}

abbrev pub closing : Interval → ℕ
closing s = s.closes

-- the moment at which the session of a day closes
abbrev pub close_of : Entries → ℕ → Option ℕ
close_of hours day = option_map closing (session hours day)

-- a session closes at this moment
abbrev pub IsClosing : Entries → ℕ → Type 0
IsClosing hours t = (day : ℕ) × (close_of hours day ≡ Some t)

-- the session of this day closes at this moment
abbrev pub closes_at : Entries → ℕ → ℕ → Bool
closes_at hours day t = option_map_or (λ closes. closes == t) (close_of hours day) false

-- `IsClosing` as a test: a session that closes here is that of the day of the minute before
unfoldable pub is_closing : Entries → ℕ → Bool
is_closing hours t = closes_at hours (day_of (t - 1)) t

-- The bars of a resolution, by their start and end: every minute begins a minute bar, and every whole hour an hour bar.
-- A daily bar starts at 00:00 of its date and ends as that date's session closes.
abbrev pub is_bar : Entries → Resolution → ℕ → ℕ → Bool
is_bar hours Minute start end = end == start + 1
is_bar hours Hour start end = (start % 60 == 0) && (end == start + 60)
is_bar hours Daily start end = (minute_of_day start == 0) && closes_at hours (day_of start) end

-- a bar that ends after the opening and starts before the closing
abbrev pub meets : ℕ → ℕ → Interval → Bool
meets start end s = nat_lt s.opens end && nat_lt start s.closes

-- a bar is in session where the day of its start has a session that the bar meets
abbrev pub in_session : Entries → ℕ → ℕ → Bool
in_session hours start end = option_map_or (meets start end) (session hours (day_of start)) false

-- the grid of a resolution: all bars that would be in session
abbrev pub is_grid_bar : Entries → Resolution → ℕ → ℕ → Bool
is_grid_bar hours resolution start end = is_bar hours resolution start end && in_session hours start end

-- one of them ends at this moment
abbrev pub IsGridEnd : Entries → Resolution → ℕ → Type 0
IsGridEnd hours resolution end = (start : ℕ) × (is_grid_bar hours resolution start end ≡ true)

-- where the bar of the grid that ends at this moment starts, if there is one
abbrev pub bar_start : Resolution → ℕ → ℕ
bar_start Minute end = end - 1
bar_start Hour end = end - 60
bar_start Daily end = midnight (day_of (end - 1))

-- `IsGridEnd` as a test
unfoldable pub is_grid_end : Entries → Resolution → ℕ → Bool
is_grid_end hours resolution end = is_grid_bar hours resolution (bar_start resolution end) end

-- no two bars of the grid end at one moment, and the one that does has this start
abbrev pub HasOneBarAtEnd : Entries → Resolution → Type 0
HasOneBarAtEnd hours resolution =
    (start end : ℕ) → is_grid_bar hours resolution start end ≡ true → start ≡ bar_start resolution end
