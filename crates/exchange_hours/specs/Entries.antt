-- What an hours file says of a market.
use Rattle.std.specs.Prelude.{ℕ, List}
use Rattle.exchange_hours.specs.declared.entries.Segment.{Segment}
use Rattle.exchange_hours.specs.declared.entries.EarlyClose.{EarlyClose}

-- The segments of the weekdays as they stand in the file, the days that are holidays, and the days that close early.
-- Of the days there are only those from 1970 to 2199.
pub record Entries : Type 0 where
  pub segments : List Segment
  pub holidays : List ℕ
  pub early_closes : List EarlyClose
