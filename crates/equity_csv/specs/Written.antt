-- The rows that files can have, and their plainest lines.
use Rattle.std.specs.Prelude.{ℕ, ◌*◌, ◌/◌, Bool, nat_le, ℤ, ◌≤ℤ◌, unsigned_abs, List, ◌∷◌, ◌++◌, codes, decimal}
use Rattle.std.specs.List.{list_all}
use Rattle.lean_fixed.specs.Moments.{day_of, minute_of_day}
use Rattle.lean_fixed.specs.Ranges.{IsDatedMoment, IsPrice, IsVolume}
use Rattle.lean_fixed.specs.Printed.{two_digits, day_text}
use Rattle.equity_csv.specs.declared.row.Row.{Row}

-- what a line can say: a row of a day from 1970-01-01 to 2199-12-31, with its numbers in their ranges
pub record IsRow (row : Row) : Type 0 where
  pub start : IsDatedMoment row.start.0
  pub opening : IsPrice row.opening.0
  pub high : IsPrice row.high.0
  pub low : IsPrice row.low.0
  pub closing : IsPrice row.closing.0
  pub low_opening : row.low.0 ≤ℤ row.opening.0
  pub opening_high : row.opening.0 ≤ℤ row.high.0
  pub low_closing : row.low.0 ≤ℤ row.closing.0
  pub closing_high : row.closing.0 ≤ℤ row.high.0
  pub volume : IsVolume row.volume.0

-- the start of a row in minutes since 1970-01-01 00:00, its day, and the minute of that day
abbrev pub start_of_row : Row → ℕ
start_of_row row = unsigned_abs row.start.0

abbrev pub day_of_row : Row → ℕ
day_of_row row = day_of (start_of_row row)

abbrev pub minute_of_row : Row → ℕ
minute_of_row row = minute_of_day (start_of_row row)

-- a further field of a line: a comma and a number
abbrev pub field_text : ℤ → List ℕ
field_text n = 44 ∷ decimal (unsigned_abs n)

abbrev pub values_text : Row → List ℕ
values_text row =
    field_text row.opening.0 ++ field_text row.high.0 ++ field_text row.low.0 ++ field_text row.closing.0
    ++ field_text row.volume.0

-- the line of a row in the minute file of its day, without its LF
abbrev pub minute_line : Row → List ℕ
minute_line row = decimal (minute_of_row row * 60000) ++ values_text row

-- the hour of a dated row behind its day
abbrev pub hour_text : ℕ → List ℕ
hour_text hour = 32 ∷ two_digits hour ++ codes ":00"

-- the line of a row in a file of hour or daily bars, without its LF
abbrev pub dated_line : Row → List ℕ
dated_line row = day_text (day_of_row row) ++ hour_text (minute_of_row row / 60) ++ values_text row

-- no byte is a control character, so none is an LF or a CR
abbrev pub is_text : List ℕ → Bool
is_text line = list_all (λ b. nat_le 32 b) line
