-- Moments of the exchange's clock, in minutes since 1970-01-01 00:00, and the days on which they lie.
use Rattle.std.specs.Prelude.{ℕ, ◌+◌, ◌*◌, ◌/◌, ◌%◌, unsigned_abs}
use Rattle.lean_fixed.specs.declared.time.Window.{Window}

abbrev pub minutes_per_day : ℕ
minutes_per_day = 1440

-- 00:00 of a day; 24:00 of it is 00:00 of the next
abbrev pub midnight : ℕ → ℕ
midnight day = minutes_per_day * day

-- the day on which a moment lies, and the minute of that day
abbrev pub day_of : ℕ → ℕ
day_of moment = moment / minutes_per_day

abbrev pub minute_of_day : ℕ → ℕ
minute_of_day moment = moment % minutes_per_day

-- 00:00 of the first day of a window, and 24:00 of its last
abbrev pub first_moment : Window → ℕ
first_moment window = midnight (unsigned_abs window.first.0)

abbrev pub last_moment : Window → ℕ
last_moment window = midnight (unsigned_abs window.last.0 + 1)
