-- What a security's feed gives at a moment, by asking all of its kept rows.
use Rattle.std.specs.Prelude.{ℕ, Bool, false, not, ◌&&◌, ◌==◌, nat_le, nat_lt, if◌then◌else◌, unsigned_abs, pos, find, filter, Option, None, option_map, is_some}
use Rattle.std.specs.List.{list_all, last_or}
use Rattle.std.specs.Option.{option_or}
use Rattle.lean_fixed.specs.declared.resolution.Resolution.{Resolution}
use Rattle.lean_items.specs.declared.bad.Bad.{Bad}
use Rattle.lean_items.specs.declared.bar.Bar.{Bar}
use Rattle.exchange_hours.specs.Entries.{Entries}
use Rattle.exchange_hours.specs.Grid.{is_grid_end, bar_start}
use Rattle.exchange_hours.specs.Sessions.{moment}
use Rattle.clock_feeds.specs.Kept.{Kept}

-- by what a feed fills: the hours and the resolution of its grid, whether it fills at all, and the last moment of the window
pub record Filling : Type 0 where
  pub hours : Entries
  pub resolution : Resolution
  pub fills : Bool
  pub last : ℕ

abbrev pub end_of : Bar → ℕ
end_of bar = unsigned_abs bar.end.0

abbrev pub ends_at : ℕ → Bar → Bool
ends_at t bar = end_of bar == t

abbrev pub ends_before : ℕ → Bar → Bool
ends_before t bar = nat_lt (end_of bar) t

-- a malformed line stands behind the rows, and all of them end before this moment
abbrev pub is_over : Kept Bar → ℕ → Bool
is_over kept t = is_some kept.stop && list_all (ends_before t) kept.rows

-- a bar is filled at a grid end of the window, but never behind a malformed line
abbrev pub fills_at : Filling → Kept Bar → ℕ → Bool
fills_at f kept t = f.fills && (nat_le t f.last && (is_grid_end f.hours f.resolution t && not (is_over kept t)))

-- the last row that ends before this moment
abbrev pub latest : Kept Bar → ℕ → Option Bar
latest kept t = last_or None (filter (ends_before t) kept.rows)

-- the grid's bar that ends at this moment, with the prices of a row, no volume, and not real
abbrev pub filled : Filling → ℕ → Bar → Bar
filled f t row =
    record row { start = moment (bar_start f.resolution t); end = moment t; volume = record { 0 = pos 0 }; real = false }

-- the bar at a moment: the row that ends there, or else a filled one
unfoldable pub bar_at : Filling → Kept Bar → ℕ → Option Bar
bar_at f kept t =
    option_or (find (ends_at t) kept.rows)
    (if fills_at f kept t then option_map (filled f t) (latest kept t) else None)

-- the malformed line at which a feed ends at a moment, where all its rows end at or before it
abbrev pub ends_by : ℕ → Bar → Bool
ends_by t bar = nat_le (end_of bar) t

abbrev pub blocked : Kept Bar → ℕ → Option Bad
blocked kept t = if list_all (ends_by t) kept.rows then kept.stop else None
