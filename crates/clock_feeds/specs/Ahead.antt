-- Folders that are the same as far as the rows of a window's feeds end by a moment.
use Rattle.std.specs.Prelude.{◌≡◌, ℕ, ◌+◌, ◌≤◌, ℤ, Bool, false, nat_le, List, map, filter, filter_map, Option, Some, None, Result, Ok, Err}
use Rattle.std.specs.List.{AllByRecursion as Each}
use Rattle.lean_fixed.specs.Moments.{midnight}
use Rattle.lean_fixed.specs.declared.resolution.Resolution.{Resolution}
use Rattle.lean_fixed.specs.declared.time.Window.{Window}
use Rattle.lean_io.specs.Told.{Files}
use Rattle.lean_items.specs.declared.coarse_row.CoarseRow.{CoarseRow}
use Rattle.lean_items.specs.declared.feed_key.FeedKind.TheVariants.{Coarse, Equity}
use Rattle.lean_items.specs.declared.reason.Reason.{Reason}
use Rattle.equity_csv.specs.declared.row.Row.{Row}
use Rattle.exchange_hours.specs.Entries.{Entries}
use Rattle.feed_paths.specs.Files.{files_of}
use Rattle.feed_paths.specs.Paths.{path_of}
use Rattle.clock_feeds.specs.Raw.{Timed, Raw, raw_of, file_entries, equity_entries, equity_end, coarse_entries, coarse_end}

-- what the lines of one file say
abbrev pub equity_lines : Files → Entries → List ℕ → Resolution → ℕ → List (Raw Row)
equity_lines files hours symbol resolution file =
    map (raw_of file (equity_end hours resolution)) (file_entries (equity_entries resolution file) (files (path_of (Equity symbol resolution) file)))

abbrev pub coarse_lines : Files → ℕ → List (Raw CoarseRow)
coarse_lines files file = map (raw_of file (coarse_end file)) (file_entries coarse_entries (files (path_of Coarse file)))

-- a row ends by a moment
abbrev pub is_end_by : ℕ → Option ℕ → Bool
is_end_by t None = false
is_end_by t (Some end) = nat_le end t

module _ {X : Type 0} where
  abbrev pub HasRow : Result (Timed X) Reason → Type 0
  HasRow (Ok timed) = Unit {0}
  HasRow (Err reason) = ⊥

  -- no line is malformed
  abbrev pub AreGood : List (Raw X) → Type 0
  AreGood raw = Each (λ entry. HasRow entry.says) raw

  abbrev pub row_said : Result (Timed X) Reason → Option (Timed X)
  row_said (Ok timed) = Some timed
  row_said (Err reason) = None

  -- the rows, and those of them that end by a moment
  abbrev pub rows_said : List (Raw X) → List (Timed X)
  rows_said raw = filter_map (λ entry. row_said entry.says) raw

  abbrev pub rows_by : ℕ → List (Raw X) → List (Timed X)
  rows_by t raw = filter (λ timed. is_end_by t timed.end) (rows_said raw)

-- no file of the feeds of a window has a malformed line
pub record AreWellFormed (files : Files) (hours : Entries) (window : Window) : Type 0 where
  pub bars : (symbol : List ℕ) (resolution : Resolution) (start : ℤ)
      → Each (λ file. AreGood (equity_lines files hours symbol resolution file)) (files_of (Equity symbol resolution) start window hours)
  pub rows : (start : ℤ) → Each (λ file. AreGood (coarse_lines files file)) (files_of Coarse start window hours)

-- In each file of the feeds of a window the rows that end by a moment are the same. The rows of the coarse file of a date all
-- end at 00:00 of the next one.
pub record AgreeUntil (t : ℕ) (files other : Files) (hours : Entries) (window : Window) : Type 0 where
  pub bars : (symbol : List ℕ) (resolution : Resolution) (start : ℤ)
      → Each (λ file. rows_by t (equity_lines files hours symbol resolution file) ≡ rows_by t (equity_lines other hours symbol resolution file))
      (files_of (Equity symbol resolution) start window hours)
  pub rows : (start : ℤ)
      → Each (λ file. midnight (file + 1) ≤ t → rows_said (coarse_lines files file) ≡ rows_said (coarse_lines other file)) (files_of Coarse start window hours)
