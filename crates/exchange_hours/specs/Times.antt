-- The times of day and the dates that an hours file spells.
use Rattle.std.specs.Prelude.{ℕ, ◌+◌, ◌*◌, Bool, ◌&&◌, ◌||◌, ◌==◌, nat_lt, nat_le, if◌then◌else◌, ℤ, pos, negsuc, List, length, take, drop, slice_index, codes, bytes_eq, Option, Some, None}
use Rattle.std.specs.List.{before_first, after_first}
use Rattle.jiff_core.specs.declared.civil.date.Date.{Date}
use Rattle.lean_fixed.specs.Calendar.{Civil, is_civil, day_number, month_length}
use Rattle.lean_fixed.specs.Moments.{minutes_per_day}
use Rattle.lean_fixed.specs.Digits.{digits}

-- the minutes since 00:00 of an hour from 00 to 23 and a minute from 00 to 59
abbrev pub clock : Option ℕ → Option ℕ → Option ℕ
clock (Some hour) (Some minute) = if nat_lt hour 24 && nat_lt minute 60 then Some (60 * hour + minute) else None
clock hour minute = None

-- HH:mm
abbrev pub hour_minute : List ℕ → Option ℕ
hour_minute text =
    if (length text == 5) && (slice_index text 2 == 58) then clock (digits (take 2 text)) (digits (drop 3 text)) else None

-- the text without seconds of `:00` behind HH:mm
abbrev pub without_seconds : List ℕ → List ℕ
without_seconds text = if bytes_eq (drop 5 text) (codes ":00") then take 5 text else text

-- HH:mm or HH:mm:00 from 00:00 to 24:00, or 1.00:00:00, which is 24:00 too
abbrev pub time_of : List ℕ → Option ℕ
time_of text =
    if bytes_eq text (codes "1.00:00:00") || bytes_eq (without_seconds text) (codes "24:00") then Some minutes_per_day
    else hour_minute (without_seconds text)

-- a date of the civil calendar, as far as years have four digits
abbrev pub is_date : Civil → Bool
is_date date =
    nat_le date.year 9999 && nat_le 1 date.month && nat_le date.month 12 && nat_le 1 date.day && nat_le date.day (month_length date)

abbrev pub date_from : Option ℕ → Option ℕ → Option ℕ → Option Civil
date_from (Some year) (Some month) (Some day) =
    let date : Civil = record { year = year; month = month; day = day } in if is_date date then Some date else None
date_from year month day = None

-- one or two digits of a month, one or two of a day and four of a year
abbrev pub date_of_parts : List ℕ → List ℕ → List ℕ → Option Civil
date_of_parts month day year =
    if nat_le (length month) 2 && nat_le (length day) 2 && (length year == 4) then date_from (digits year) (digits month) (digits day) else None

abbrev pub is_slash : ℕ → Bool
is_slash b = b == 47

-- a date of the library, which may have a year before 0, as far as it is one of those above
abbrev pub year_of : ℤ → ℕ
year_of (pos year) = year
year_of (negsuc _) = 0

abbrev pub civil : Date → Civil
civil date = record { year = year_of date.year; month = date.month; day = date.day }

-- M/D/YYYY
abbrev pub date_of : List ℕ → Option Civil
date_of text =
    let rest = after_first is_slash text in
    date_of_parts (before_first is_slash text) (before_first is_slash rest) (after_first is_slash rest)

-- the number of a date's day, where the date lies from 1970 to 2199
abbrev pub day_within : Civil → Option ℕ
day_within date = if is_civil date then Some (day_number date) else None
