-- Days as numbers since 1970-01-01, and the dates of the civil calendar that they are.
use Rattle.std.specs.Prelude.{ℕ, zero, suc, ◌+◌, ◌-◌, ◌%◌, Bool, ◌&&◌, ◌==◌, nat_le, if◌then◌else◌, pos, unsigned_abs, List, length, take, drop, Option, Some, None}
use Rattle.std.specs.List.{list_all}
use Rattle.jiff_core.specs.Calendar.{days_from_civil, days_in_month}
use Rattle.lean_fixed.specs.Digits.{is_digit, value_of}

-- 2199-12-31, the last day that there is
abbrev pub last_day : ℕ
last_day = 84005

-- a year, a month and a day, which need not be a date of the calendar
pub record Civil : Type 0 where
  pub year : ℕ
  pub month : ℕ
  pub day : ℕ

-- the number of days of a date's month
abbrev pub month_length : Civil → ℕ
month_length date = days_in_month (pos date.year) date.month

-- a date of the calendar from 1970-01-01 to 2199-12-31
abbrev pub is_civil : Civil → Bool
is_civil date =
    nat_le 1970 date.year && nat_le date.year 2199 && nat_le 1 date.month && nat_le date.month 12
    && nat_le 1 date.day && nat_le date.day (month_length date)

-- how many days such a date lies after 1970-01-01
abbrev pub day_number : Civil → ℕ
day_number date = unsigned_abs (days_from_civil (pos date.year) date.month date.day)

-- the date that eight digits spell: four of the year, two of the month and two of the day
abbrev pub spelled : List ℕ → Civil
spelled bytes =
    record { year = value_of (take 4 bytes); month = value_of (take 2 (drop 4 bytes)); day = value_of (take 2 (drop 6 bytes)) }

-- the number of the day that eight digits are the date of
abbrev pub day_of_digits : List ℕ → Option ℕ
day_of_digits bytes =
    if (length bytes == 8) && list_all is_digit bytes && is_civil (spelled bytes)
    then Some (day_number (spelled bytes)) else None

-- a day past the end of its month is a day of the next one: 35 January is 4 February
abbrev pub carried : Civil → Civil
carried date =
    if nat_le date.day (month_length date) then date
    else if date.month == 12
    then record { year = date.year + 1; month = 1; day = date.day - month_length date }
    else record { year = date.year; month = date.month + 1; day = date.day - month_length date }

-- the same, so many times
unfoldable pub carried_through : ℕ → Civil → Civil
carried_through zero date = date
carried_through (suc months) date = carried_through months (carried date)

-- the date of a day: it is counted on from 1 January 1970, and carried month by month as far as January 2200
unfoldable pub civil_of : ℕ → Civil
civil_of day = carried_through 2760 (record { year = 1970; month = 1; day = day + 1 })

-- the weekday of a day, from 0 for Sunday: day 0 was a Thursday
abbrev pub weekday : ℕ → ℕ
weekday day = (day + 4) % 7
