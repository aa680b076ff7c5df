-- The daily tape: a report that walks the days. Step 0 comes before any day, step 1 is 1970-01-01, and the last step 2199-12-31.
use Rattle.std.specs.Prelude.{ℕ, ◌+◌, ◌==◌, nat_le, if◌then◌else◌, List, [], ◌∷◌, ◌++◌, map, filter, flat_map, length, Option, Some, None, option_map}
use Rattle.std.specs.List.{list_all}
use Rattle.std.specs.Option.{option_or}
use Rattle.lean_fixed.specs.Calendar.{last_day}
use Rattle.lean_fixed.specs.Printed.{day_text}
use Rattle.lean_fixed.specs.declared.resolution.Resolution.TheVariants.{Daily}
use Rattle.lean_io.specs.Told.{Files}
use Rattle.lean_items.specs.declared.bad.Bad.{Bad}
use Rattle.lean_items.specs.declared.feed_key.FeedKind.TheVariants.{Equity}
use Rattle.equity_csv.specs.declared.row.Row.{Row}
use Rattle.clock_steps.specs.Runs.{Ran, run, run_to}
use Rattle.report_pages.specs.declared.trades.Trades.{Trades}
use Rattle.report_pages.specs.Lines.{row_line, end_line, data_line}
use Rattle.daily_tape.specs.Entry.{row_day}
use Rattle.daily_tape.specs.DailyFile.{Sheet, daily_sheet}

-- a security and what its daily file says
pub record Security : Type 0 where
  pub symbol : List ℕ
  pub sheet : Sheet

-- a row and a malformed line, each with its symbol
abbrev pub TapeRow : Type 0
TapeRow = List ℕ × Row

abbrev pub Refusal : Type 0
Refusal = List ℕ × Bad

abbrev pub named : List ℕ → Row → TapeRow
named symbol row = (symbol, row)

abbrev pub refusal : List ℕ → Bad → Refusal
refusal symbol bad = (symbol, bad)

-- the step of the day on which a row starts
abbrev pub step_of : Row → ℕ
step_of row = row_day row + 1

-- the rows of a security at a step
abbrev pub rows_at : ℕ → Security → List TapeRow
rows_at step security = map (named security.symbol) (filter (λ row. step_of row == step) security.sheet.rows)

-- a malformed line is due where all the rows before it stand at this step or an earlier one
abbrev pub due_of : ℕ → Security → Option Refusal
due_of step security =
    if list_all (λ row. nat_le (step_of row) step) security.sheet.rows
    then option_map (refusal security.symbol) security.sheet.stop else None

-- the first of the securities whose malformed line is due
abbrev pub due : ℕ → List Security → Option Refusal
due step [] = None
due step (security ∷ more) = option_or (due_of step security) (due step more)

-- A step prints the rows of all the securities in their order, and then stops where a malformed line is due.
abbrev pub tape_step : List Security → ℕ → Unit {0} → Ran (Unit {0}) TapeRow Refusal
tape_step securities step u =
    record { lines = flat_map (rows_at step) securities; state = u; stop = due step securities }

-- so many steps from step 0 on
abbrev pub tape_steps : List Security → ℕ → Ran (Unit {0}) TapeRow Refusal
tape_steps securities count = run (tape_step securities) count 0 tt

-- all of them
abbrev pub tape : List Security → Ran (Unit {0}) TapeRow Refusal
tape securities = run_to (tape_step securities) 0 (last_day + 1) tt

-- the prices and the volume of a row
abbrev pub trades_of : Row → Trades
trades_of row = record { opening = row.opening; high = row.high; low = row.low; closing = row.closing; volume = row.volume }

-- the line of a row, with its day in front
abbrev pub tape_line : TapeRow → List ℕ
tape_line (symbol, row) = row_line (day_text (row_day row)) symbol (trades_of row)

-- the line that names a malformed line of a security's daily file
abbrev pub refusal_line : Refusal → List ℕ
refusal_line (symbol, bad) = data_line (Equity symbol Daily) bad

abbrev pub tape_text : List TapeRow → List ℕ
tape_text rows = flat_map tape_line rows

-- the last line of a tape of so many rows
abbrev pub last_line : ℕ → Option Refusal → List ℕ
last_line rows None = end_line rows
last_line rows (Some refusal) = refusal_line refusal

-- all that is printed
abbrev pub tape_bytes : Ran (Unit {0}) TapeRow Refusal → List ℕ
tape_bytes ran = tape_text ran.lines ++ last_line (length ran.lines) ran.stop

-- the securities of the words, in their order
abbrev pub security : Files → List ℕ → Security
security files symbol = record { symbol = symbol; sheet = daily_sheet files symbol }

abbrev pub securities : Files → List (List ℕ) → List Security
securities files symbols = map (security files) symbols
