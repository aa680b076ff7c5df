-- What the daily file of a security says next, as the reader holds it.
use Rattle.std.specs.Prelude.{◌≡◌, ℕ, ◌<◌, ◌≤◌, Bool, true, List, Option, Some, None, option_map, Result, Ok, Err}
use Rattle.lean_fixed.specs.declared.resolution.Resolution.TheVariants.{Daily}
use Rattle.lean_io.specs.Told.{Rose}
use Rattle.lean_items.specs.declared.reason.Reason.{Reason}
use Rattle.line_source.specs.Lines.{FileLine}
use Rattle.equity_csv.specs.declared.row.Row.{Row as FileRow}
use Rattle.equity_csv.specs.Rows.{dated_row}
use Rattle.clock_feeds.specs.Entries.{checked}
use Rattle.daily_tape.specs.declared.daily_row.DailyRow.{DailyRow}
use Rattle.daily_tape.specs.declared.head.Head.{Head}
use Rattle.daily_tape.specs.declared.head.Head.TheVariants.{Row, Bad, Faulted, End}
use Rattle.daily_tape.specs.DailyFile.{Sheet, no_rows, with_row, bad_line, starts_after, sheet_after}
use Rattle.daily_tape.specs.DailyTape.{step_of}

-- the row that is held
abbrev pub plain : Option DailyRow → Option FileRow
plain before = option_map (λ daily. daily.row) before

abbrev pub plain_result : Result DailyRow Reason → Result FileRow Reason
plain_result (Ok daily) = Ok daily.row
plain_result (Err reason) = Err reason

-- what a text says behind a row
abbrev pub said_behind : Option FileRow → List ℕ → Result FileRow Reason
said_behind before text = checked starts_after before (dated_row Daily text)

-- the head is what the line of a number says
abbrev pub IsSaid : ℕ → Result FileRow Reason → Head → Type 0
IsSaid number says (Row daily) = says ≡ Ok daily.row
IsSaid number says (Bad bad) = (says ≡ Err bad.reason) × (bad ≡ bad_line number bad.reason)
IsSaid number says Faulted = ⊥
IsSaid number says End = ⊥

-- what is still to come of a file, where the lines behind the head are `left`
abbrev pub still_to_come : Head → List (ℕ × FileLine) → Sheet
still_to_come (Row daily) left = with_row daily.row (sheet_after (Some daily.row) left)
still_to_come (Bad bad) left = no_rows (Some bad)
still_to_come Faulted left = no_rows None
still_to_come End left = no_rows None

-- but for a failed read the head is known
abbrev pub IfKnown : Head → Type 0 → Type 0
IfKnown Faulted P = Unit {0}
IfKnown _ P = P

-- the head of a row leaves the file open, with a line that a file may have
abbrev pub MayGoOn : Bool → ℕ → Head → Type 0
MayGoOn is_open number (Row daily) = (is_open ≡ true) × (number ≤ 10_000_000)
MayGoOn is_open number _ = Unit {0}

-- a head that is a failed read comes only where the count rose
abbrev pub HasCause : ℕ → ℕ → Head → Type 0
HasCause before now Faulted = Rose before now
HasCause before now _ = Unit {0}

-- the head of a row stands at a later step than the row before it
abbrev pub step_before : Option DailyRow → ℕ
step_before None = 0
step_before (Some daily) = step_of daily.row

abbrev pub StandsPast : ℕ → Head → Type 0
StandsPast step (Row daily) = step < step_of daily.row
StandsPast step _ = Unit {0}
