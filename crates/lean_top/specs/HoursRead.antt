-- The hours file of a folder: its hours, or the words with which a report refuses it.
use Rattle.std.specs.Prelude.{ℕ, nat_lt, if◌then◌else◌, List, [], ◌∷◌, ◌++◌, codes, length, Option, Some, None, Result, Ok, Err}
use Rattle.lean_io.specs.Told.{Files}
use Rattle.exchange_hours.specs.declared.fault.HoursFault.{HoursFault}
use Rattle.exchange_hours.specs.declared.fault.HoursFault.TheVariants.{Json, NoEntry, DayForm, TimeForm, Holiday, EarlyClose, NoMemory}
use Rattle.exchange_hours.specs.Entries.{Entries}
use Rattle.exchange_hours.specs.HoursFile.{hours_of, us_equities}

-- where the hours file lies, from the folder on
unfoldable pub hours_path : List ℕ
hours_path = codes "market-hours/market-hours-database.json"

-- the most bytes of it
abbrev pub most_hours : ℕ
most_hours = 33554432

-- the word for a fault; a definition never wants memory
abbrev pub fault_word : HoursFault → List ℕ
fault_word Json = codes "json"
fault_word NoEntry = codes "no-entry"
fault_word DayForm = codes "day-form"
fault_word TimeForm = codes "time-form"
fault_word Holiday = codes "holiday"
fault_word EarlyClose = codes "early-close"
fault_word NoMemory = []

abbrev pub or_word : Result Entries HoursFault → Result Entries (List ℕ)
or_word (Ok hours) = Ok hours
or_word (Err fault) = Err (fault_word fault)

unfoldable pub hours_in : Option (List ℕ) → Result Entries (List ℕ)
hours_in None = Err (codes "missing file")
hours_in (Some bytes) = if nat_lt most_hours (length bytes) then Err (codes "large") else or_word (hours_of us_equities bytes)

abbrev pub hours_file : Files → Result Entries (List ℕ)
hours_file files = hours_in (files hours_path)

-- the line that refuses the file
unfoldable pub hours_line : List ℕ → List ℕ
hours_line word = codes "hours " ++ word ++ 10 ∷ []
