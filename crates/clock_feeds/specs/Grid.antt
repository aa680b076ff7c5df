-- Bars of the grid of a resolution, and the longer periods into which they fit.
use Rattle.std.specs.Prelude.{◌≡◌, ℕ, ◌+◌, ◌*◌, ◌/◌, ◌%◌, ◌<◌, ◌≤◌, true, pos, unsigned_abs}
use Rattle.lean_fixed.specs.Moments.{minutes_per_day}
use Rattle.lean_fixed.specs.declared.resolution.Resolution.{Resolution}
use Rattle.lean_fixed.specs.declared.resolution.Resolution.TheVariants.{Minute, Hour, Daily}
use Rattle.lean_items.specs.declared.bar.Bar.{Bar}
use Rattle.exchange_hours.specs.Entries.{Entries}
use Rattle.exchange_hours.specs.Grid.{is_grid_bar}
use Rattle.clock_feeds.specs.Bars.{end_of}

abbrev pub start_of : Bar → ℕ
start_of bar = unsigned_abs bar.start.0

-- a bar is one of the grid: it would be in session
pub record IsOnGrid (hours : Entries) (resolution : Resolution) (bar : Bar) : Type 0 where
  pub start : bar.start.0 ≡ pos (start_of bar)
  pub end : bar.end.0 ≡ pos (end_of bar)
  pub is : is_grid_bar hours resolution (start_of bar) (end_of bar) ≡ true

-- no bar of a resolution lasts longer than so many minutes, at whose multiples it starts
abbrev pub length_of : Resolution → ℕ
length_of Minute = 1
length_of Hour = 60
length_of Daily = minutes_per_day

-- so many minutes hold whole bars of a resolution
abbrev pub HoldsWhole : Resolution → ℕ → Type 0
HoldsWhole resolution period = (0 < period) × (period % length_of resolution ≡ 0)

-- time being cut into periods of so many minutes from 1970-01-01 00:00 on, a bar ends behind its start and lies in one of them
pub record LiesInPeriod (period : ℕ) (bar : Bar) : Type 0 where
  pub start : bar.start.0 ≡ pos (start_of bar)
  pub end : bar.end.0 ≡ pos (end_of bar)
  pub lasts : start_of bar < end_of bar
  pub within : end_of bar ≤ start_of bar / period * period + period
