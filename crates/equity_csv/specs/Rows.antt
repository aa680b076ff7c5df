-- What a line of a file of equity bars says: a row, or the first reason for which it is none. A row has at least six fields:
-- the time, the opening, high, low and closing price, and the volume. Further fields say nothing.
use Rattle.std.specs.Prelude.{ℕ, ◌+◌, ◌*◌, ◌/◌, ◌%◌, Bool, true, ◌&&◌, ◌==◌, nat_le, nat_lt, if◌then◌else◌, pos, List, [], ◌∷◌, take, drop, Option, Some, None, option_map, Result, Ok, Err}
use Rattle.lean_fixed.specs.Digits.{is_digit, value_of}
use Rattle.lean_fixed.specs.Fields.{fields, plain_number}
use Rattle.lean_fixed.specs.Calendar.{day_of_digits}
use Rattle.lean_fixed.specs.Moments.{minutes_per_day, midnight}
use Rattle.lean_fixed.specs.Ranges.{most_price, most_volume}
use Rattle.lean_fixed.specs.declared.resolution.Resolution.{Resolution}
use Rattle.lean_fixed.specs.declared.resolution.Resolution.TheVariants.{Minute, Daily}
use Rattle.lean_items.specs.declared.reason.Reason.{Reason}
use Rattle.lean_items.specs.declared.reason.Reason.TheVariants.{Fields, Time, Price, Volume, Range}
use Rattle.equity_csv.specs.declared.row.Row.{Row}

-- a number where it passes a test
abbrev pub kept_if : (ℕ → Bool) → Option ℕ → Option ℕ
kept_if passes None = None
kept_if passes (Some n) = if passes n then Some n else None

-- the price in a field, in 1/10000 dollar
abbrev pub price_in : List ℕ → Option ℕ
price_in field = kept_if (λ n. nat_le 1 n && nat_le n most_price) (plain_number field)

abbrev pub volume_in : List ℕ → Option ℕ
volume_in field = kept_if (λ n. nat_le n most_volume) (plain_number field)

-- both the opening and the closing price lie from the low to the high
abbrev pub is_ranged : ℕ → ℕ → ℕ → ℕ → Bool
is_ranged opening high low closing =
    nat_le low opening && nat_le opening high && nat_le low closing && nat_le closing high

abbrev pub row_of : ℕ → ℕ → ℕ → ℕ → ℕ → ℕ → Row
row_of start opening high low closing volume = record {
  start = record { 0 = pos start };
  opening = record { 0 = pos opening };
  high = record { 0 = pos high };
  low = record { 0 = pos low };
  closing = record { 0 = pos closing };
  volume = record { 0 = pos volume };
}

-- the row of what stands in the six fields, or the first of them in which nothing good stands
abbrev pub row_of_values : Option ℕ → Option ℕ → Option ℕ → Option ℕ → Option ℕ → Option ℕ → Result Row Reason
row_of_values None _ _ _ _ _ = Err Time
row_of_values (Some start) (Some opening) (Some high) (Some low) (Some closing) (Some volume) =
    if is_ranged opening high low closing then Ok (row_of start opening high low closing volume) else Err Range
row_of_values (Some _) (Some _) (Some _) (Some _) (Some _) None = Err Volume
row_of_values (Some _) _ _ _ _ _ = Err Price

abbrev pub row_of_fields : (List ℕ → Option ℕ) → List (List ℕ) → Result Row Reason
row_of_fields time (at ∷ opening ∷ high ∷ low ∷ closing ∷ volume ∷ further) =
    row_of_values (time at) (price_in opening) (price_in high) (price_in low) (price_in closing) (volume_in volume)
row_of_fields time _ = Err Fields

-- the minute of the day that starts so many milliseconds after 00:00
abbrev pub minute_in : List ℕ → Option ℕ
minute_in field =
    option_map (λ ms. ms / 60000) (kept_if (λ ms. nat_lt ms (minutes_per_day * 60000) && (ms % 60000 == 0)) (plain_number field))

abbrev pub minute_start : ℕ → List ℕ → Option ℕ
minute_start day field = option_map (λ minute. midnight day + minute) (minute_in field)

-- the row that a line of the minute file of a day says
unfoldable pub minute_row : ℕ → List ℕ → Result Row Reason
minute_row day text = row_of_fields (minute_start day) (fields text)

-- the hour in a space, two digits from 00 to 23, and ":00"
abbrev pub hour_in : List ℕ → Option ℕ
hour_in (space ∷ tens ∷ ones ∷ colon ∷ third ∷ fourth ∷ []) =
    if (space == 32) && is_digit tens && is_digit ones && (colon == 58) && (third == 48) && (fourth == 48)
    then kept_if (λ hour. nat_le hour 23) (Some (value_of (tens ∷ ones ∷ []))) else None
hour_in _ = None

-- the bars of a file whose rows have dates
abbrev pub IsDated : Resolution → Type 0
IsDated Minute = ⊥
IsDated _ = Unit {0}

-- a daily row has the hour 00, an hour row any
abbrev pub has_hour : Resolution → ℕ → Bool
has_hour Daily hour = hour == 0
has_hour _ _ = true

abbrev pub start_of : Option ℕ → Option ℕ → Option ℕ
start_of (Some day) (Some hour) = Some (midnight day + hour * 60)
start_of _ _ = None

-- the moment that "yyyyMMdd HH:00" is
abbrev pub dated_start : Resolution → List ℕ → Option ℕ
dated_start resolution field =
    start_of (day_of_digits (take 8 field)) (kept_if (has_hour resolution) (hour_in (drop 8 field)))

-- the row that a line of a file of hour or daily bars says
unfoldable pub dated_row : Resolution → List ℕ → Result Row Reason
dated_row resolution text = row_of_fields (dated_start resolution) (fields text)
