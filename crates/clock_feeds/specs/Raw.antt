-- The raw entries of a feed: what the lines of all its files say, file after file.
use Rattle.std.specs.Prelude.{ℕ, ◌+◌, Bool, nat_lt, int_lt, if◌then◌else◌, unsigned_abs, List, [], ◌∷◌, map, flat_map, Option, Some, None, Result, Ok, Err}
use Rattle.lean_fixed.specs.Moments.{midnight, day_of}
use Rattle.lean_fixed.specs.declared.resolution.Resolution.{Resolution}
use Rattle.lean_fixed.specs.declared.resolution.Resolution.TheVariants.{Minute, Hour, Daily}
use Rattle.lean_io.specs.Told.{Files}
use Rattle.lean_items.specs.declared.coarse_row.CoarseRow.{CoarseRow}
use Rattle.lean_items.specs.declared.feed_key.FeedKind.TheVariants.{Coarse, Equity}
use Rattle.lean_items.specs.declared.reason.Reason.{Reason}
use Rattle.line_source.specs.Lines.{FileLine, BlankLine, ManyLine, lines}
use Rattle.equity_csv.specs.declared.row.Row.{Row}
use Rattle.equity_csv.specs.Rows.{minute_row, dated_row}
use Rattle.coarse_csv.specs.Rows.{coarse_row}
use Rattle.exchange_hours.specs.Entries.{Entries}
use Rattle.exchange_hours.specs.Grid.{close_of}
use Rattle.feed_paths.specs.Paths.{path_of}
use Rattle.clock_feeds.specs.Entries.{Entry, entries, in_order}

-- a row and the moment at which it ends; the daily row of a date without a session ends at none
pub record Timed (X : Type 0) : Type 0 where
  pub row : X
  pub end : Option ℕ

-- what a line of a file says: the numbers of both, and the row or the reason for which there is none
pub record Raw (X : Type 0) : Type 0 where
  pub file : ℕ
  pub line : ℕ
  pub says : Result (Timed X) Reason

abbrev pub timed_says : {X : Type 0} → (X → Option ℕ) → Result X Reason → Result (Timed X) Reason
timed_says end_of (Ok row) = Ok (record { row = row; end = end_of row })
timed_says end_of (Err reason) = Err reason

abbrev pub raw_of : {X : Type 0} → ℕ → (X → Option ℕ) → Entry X → Raw X
raw_of file end_of entry = record { file = file; line = entry.line; says = timed_says end_of entry.says }

-- the entries of a file, none where it is not there
abbrev pub file_entries : {X : Type 0} → (List (ℕ × FileLine) → List (Entry X)) → Option (List ℕ) → List (Entry X)
file_entries read None = []
file_entries read (Some bytes) = read (lines bytes)

-- what the text of a line of a security's file says
abbrev pub equity_row : Resolution → ℕ → List ℕ → Option (Result Row Reason)
equity_row Minute file text = Some (minute_row file text)
equity_row Hour file text = Some (dated_row Hour text)
equity_row Daily file text = Some (dated_row Daily text)

abbrev pub starts_after : Row → Row → Bool
starts_after before row = int_lt before.start.0 row.start.0

abbrev pub equity_entries : Resolution → ℕ → List (ℕ × FileLine) → List (Entry Row)
equity_entries resolution file all = in_order starts_after None (entries (equity_row resolution file) all)

abbrev pub start_of : Row → ℕ
start_of row = unsigned_abs row.start.0

-- a minute bar ends 1 minute and an hour bar 60 minutes after its start, and a daily bar as the session of its date closes
abbrev pub equity_end : Entries → Resolution → Row → Option ℕ
equity_end hours Minute row = Some (start_of row + 1)
equity_end hours Hour row = Some (start_of row + 60)
equity_end hours Daily row = close_of hours (day_of (start_of row))

unfoldable pub equity_raw : Files → Entries → List ℕ → Resolution → List ℕ → List (Raw Row)
equity_raw files hours symbol resolution numbers =
    flat_map (λ file. map (raw_of file (equity_end hours resolution)) (file_entries (equity_entries resolution file) (files (path_of (Equity symbol resolution) file)))) numbers

-- of a coarse file no line past the 20,000th that is not blank is read
abbrev pub counted : ℕ → ℕ × FileLine → ℕ × FileLine
counted before line = (line.0, if nat_lt before 20_000 then line.1 else ManyLine)

abbrev pub first_rows : ℕ → List (ℕ × FileLine) → List (ℕ × FileLine)
first_rows before [] = []
first_rows before ((number, BlankLine) ∷ more) = first_rows before more
first_rows before (line ∷ more) = counted before line ∷ first_rows (before + 1) more

-- what the text of a line of a coarse file says
abbrev pub coarse_said : Result (Option CoarseRow) Reason → Option (Result CoarseRow Reason)
coarse_said (Ok None) = None
coarse_said (Ok (Some row)) = Some (Ok row)
coarse_said (Err reason) = Some (Err reason)

abbrev pub coarse_text : List ℕ → Option (Result CoarseRow Reason)
coarse_text text = coarse_said (coarse_row text)

abbrev pub coarse_entries : List (ℕ × FileLine) → List (Entry CoarseRow)
coarse_entries all = entries coarse_text (first_rows 0 all)

-- a row of the file of a date is known from 00:00 of the next date on
abbrev pub coarse_end : ℕ → CoarseRow → Option ℕ
coarse_end file row = Some (midnight (file + 1))

unfoldable pub coarse_raw : Files → List ℕ → List (Raw CoarseRow)
coarse_raw files numbers =
    flat_map (λ file. map (raw_of file (coarse_end file)) (file_entries coarse_entries (files (path_of Coarse file)))) numbers
