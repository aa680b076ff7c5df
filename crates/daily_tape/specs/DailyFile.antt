-- What a daily file says: its rows up to the first malformed line, and that line.
use Rattle.std.specs.Prelude.{ℕ, Bool, int_lt, List, [], ◌∷◌, Option, Some, None, option_map, Result, Ok, Err}
use Rattle.lean_fixed.specs.declared.resolution.Resolution.TheVariants.{Daily}
use Rattle.lean_io.specs.Told.{Files}
use Rattle.line_source.specs.Lines.{FileLine, lines}
use Rattle.lean_items.specs.declared.bad.Bad.{Bad}
use Rattle.lean_items.specs.declared.feed_key.FeedKind.TheVariants.{Equity}
use Rattle.feed_paths.specs.Paths.{path_of}
use Rattle.lean_items.specs.declared.reason.Reason.{Reason}
use Rattle.equity_csv.specs.declared.row.Row.{Row}
use Rattle.equity_csv.specs.Rows.{dated_row}
use Rattle.clock_feeds.specs.Entries.{Entry, entries, in_order}

-- what the text of a line says
abbrev pub daily_row : List ℕ → Option (Result Row Reason)
daily_row text = Some (dated_row Daily text)

abbrev pub starts_after : Row → Row → Bool
starts_after before row = int_lt before.start.0 row.start.0

-- the rows before the first malformed line of a file, and that line where there is one
pub record Sheet : Type 0 where
  pub rows : List Row
  pub stop : Option Bad

abbrev pub no_rows : Option Bad → Sheet
no_rows stop = record { rows = []; stop = stop }

abbrev pub with_row : Row → Sheet → Sheet
with_row row later = record { rows = row ∷ later.rows; stop = later.stop }

-- a malformed line of the file, which is the only one of its feed
abbrev pub bad_line : ℕ → Reason → Bad
bad_line line reason = record { file = 0; line = line; reason = reason }

abbrev pub put : ℕ → Result Row Reason → Sheet → Sheet
put line (Ok row) later = with_row row later
put line (Err reason) later = no_rows (Some (bad_line line reason))

abbrev pub sheet_of : List (Entry Row) → Sheet
sheet_of [] = no_rows None
sheet_of (entry ∷ more) = put entry.line entry.says (sheet_of more)

-- what lines say behind a row of their file, where there is one
abbrev pub sheet_after : Option Row → List (ℕ × FileLine) → Sheet
sheet_after before more = sheet_of (in_order starts_after before (entries daily_row more))

-- a file that is not there has no rows
abbrev pub file_sheet : Option (List (ℕ × FileLine)) → Sheet
file_sheet None = no_rows None
file_sheet (Some all) = sheet_after None all

-- the path of a security's daily file
abbrev pub daily_path : List ℕ → List ℕ
daily_path symbol = path_of (Equity symbol Daily) 0

-- the numbered lines of a security's daily file, where there is one
abbrev pub daily_lines : Files → List ℕ → Option (List (ℕ × FileLine))
daily_lines files symbol = option_map lines (files (daily_path symbol))

abbrev pub daily_sheet : Files → List ℕ → Sheet
daily_sheet files symbol = file_sheet (daily_lines files symbol)
