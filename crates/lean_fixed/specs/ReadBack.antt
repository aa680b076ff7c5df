-- What printed texts say: the numbers, the amounts and the moments whose texts they are.
use Rattle.std.specs.Prelude.{ℕ, ◌+◌, ◌*◌, Bool, not, ◌&&◌, ◌||◌, ◌==◌, nat_le, nat_lt, if◌then◌else◌, List, [], ◌∷◌, length, take, drop, slice_index, codes, bytes_eq, Option, Some, None}
use Rattle.std.specs.List.{list_all}
use Rattle.lean_fixed.specs.Digits.{is_digit, value_of, digits}
use Rattle.lean_fixed.specs.Amount.{dollars_of, places_of, amount}
use Rattle.lean_fixed.specs.Calendar.{last_day, day_of_digits}
use Rattle.lean_fixed.specs.Moments.{midnight}
use Rattle.lean_fixed.specs.Ranges.{last_printed_moment}

-- the first byte is no zero, or it is the only byte
abbrev pub has_no_leading_zero : List ℕ → Bool
has_no_leading_zero text = not (slice_index text 0 == 48) || (length text == 1)

-- the number of at most 10^18 whose decimal digits these are
abbrev pub number_of_text : List ℕ → Option ℕ
number_of_text text = if has_no_leading_zero text then digits text else None

-- the amount of at most 10^20 units whose text this is: dollars without a leading zero, a point and four digits
abbrev pub amount_of_text : List ℕ → Option ℕ
amount_of_text text =
    if has_no_leading_zero (dollars_of text) && (length (places_of text) == 4) then amount text else None

-- the day of a moment: one of the days that there are, or one of the two behind the last
abbrev pub date_of_text : List ℕ → Option ℕ
date_of_text text =
    if bytes_eq text (codes "22000101") then Some (last_day + 1)
    else if bytes_eq text (codes "22000102") then Some (last_day + 2)
    else day_of_digits text

-- the minute of the day in a space and HH:mm, from 00:00 to 23:59
abbrev pub clock_of_text : List ℕ → Option ℕ
clock_of_text (space ∷ a ∷ b ∷ colon ∷ c ∷ d ∷ []) =
    let hour = value_of (a ∷ b ∷ []) in
    let minute = value_of (c ∷ d ∷ []) in
    if (space == 32) && (colon == 58) && list_all is_digit (a ∷ b ∷ c ∷ d ∷ []) && nat_lt hour 24 && nat_lt minute 60
    then Some (hour * 60 + minute) else None
clock_of_text _ = None

-- a minute of a day, where it is a moment that may be printed
abbrev pub moment_at : Option ℕ → Option ℕ → Option ℕ
moment_at (Some day) (Some minute) =
    if nat_le (midnight day + minute) last_printed_moment then Some (midnight day + minute) else None
moment_at _ _ = None

-- the moment whose text this is: its day, a space and HH:mm
unfoldable pub moment_of_text : List ℕ → Option ℕ
moment_of_text text = moment_at (date_of_text (take 8 text)) (clock_of_text (drop 8 text))
