-- The rows of daily files.
use Rattle.std.specs.Prelude.{◌≡◌, ℕ, ◌≤◌, ◌≤ℤ◌, unsigned_abs, pos}
use Rattle.lean_fixed.specs.Calendar.{last_day}
use Rattle.lean_fixed.specs.Moments.{day_of, midnight}
use Rattle.equity_csv.specs.declared.row.Row.{Row}

-- the day on which a row starts
abbrev pub row_day : Row → ℕ
row_day row = day_of (unsigned_abs row.start.0)

-- what is known of the row of a daily file: it starts at 00:00 of a day from 1970-01-01 to 2199-12-31
pub record IsDaily (row : Row) : Type 0 where
  pub whole_day : row.start.0 ≡ pos (midnight (row_day row))
  pub in_range : row_day row ≤ last_day
  pub volume_in_range : pos 0 ≤ℤ row.volume.0
