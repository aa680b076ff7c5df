-- The files of a made folder: a large valid market, from a number.
use Rattle.std.specs.Prelude.{ℕ, ◌+◌, Bool, ◌&&◌, nat_le, List, [], ◌∷◌, ◌++◌, codes, filter, take, drop, if◌then◌else◌, bytes_eq, Some, None}
use Rattle.std.specs.List.{flat_map, range_with_len}
use Rattle.lean_fixed.specs.Calendar.{weekday}
use Rattle.lean_fixed.specs.Moments.{midnight}
use Rattle.lean_fixed.specs.declared.resolution.Resolution.TheVariants.{Minute}
use Rattle.lean_items.specs.declared.feed_key.FeedKind.TheVariants.{Equity}
use Rattle.lean_io.specs.Told.{Files}
use Rattle.feed_paths.specs.Paths.{path_of}
use Rattle.equity_csv.specs.Written.{minute_line}
use Rattle.equity_csv.specs.declared.row.Row.{Row}
use Rattle.data_maker.specs.Texts.{hours_text, plan_text, symbol_of, securities}
use Rattle.data_maker.specs.Walk.{seed, first_price, walked}

-- ---- files

-- a file and where it lies
pub record File : Type 0 where
  pub path : List ℕ
  pub bytes : List ℕ

-- some files and one more, which takes the place of a file at its path
unfoldable pub with_file : Files → File → Files
with_file files file path = if bytes_eq file.path path then Some file.bytes else files path

-- some files and then those of a list
abbrev pub with_files : Files → List File → Files
with_files files [] = files
with_files files (file ∷ more) = with_files (with_file files file) more

-- the files of a list
abbrev pub files_of : List File → Files
files_of list = with_files (λ path. None) list

-- ---- rows

-- Monday to Friday
abbrev pub is_workday : ℕ → Bool
is_workday day = nat_le 1 (weekday day) && nat_le (weekday day) 5

-- from 2013-10-07 to 2013-10-18, which is day 15,996
unfoldable pub days : List ℕ
days = filter is_workday (range_with_len 15985 12)

-- the minutes of a day from 09:30 to 15:59
abbrev pub minutes : ℕ → List ℕ
minutes day = range_with_len (midnight day + 570) 390

-- the line of a row
unfoldable pub row_line : Row → List ℕ
row_line row = minute_line row ++ 10 ∷ []

-- the minute file of a day, of its rows
abbrev pub minute_file : List ℕ → ℕ → List Row → File
minute_file symbol day rows = record { path = path_of (Equity symbol Minute) day; bytes = flat_map row_line rows }

-- the minute files of some days: of the rows in the order of time, 390 are those of a day
abbrev pub minute_files : List ℕ → List ℕ → List Row → List File
minute_files symbol [] rows = []
minute_files symbol (day ∷ days) rows = minute_file symbol day (take 390 rows) ∷ minute_files symbol days (drop 390 rows)

-- some files and then the minute files of some days, on which the walk goes on from a random number and a price
abbrev pub with_days : Files → List ℕ → ℕ → ℕ → List ℕ → Files
with_days files symbol random price days =
    with_files files (minute_files symbol days (walked random price (flat_map minutes days)))

-- the minute files of a security, whose prices walk over all days
unfoldable pub security_files : ℕ → ℕ → List File
security_files number security =
    minute_files (symbol_of security) days (walked (seed number security) (first_price security) (flat_map minutes days))

-- ---- the folder

abbrev pub hours_path : List ℕ
hours_path = codes "market-hours/market-hours-database.json"

abbrev pub plan_path : List ℕ
plan_path = codes "demo.toml"

unfoldable pub hours_file : File
hours_file = record { path = hours_path; bytes = hours_text }

unfoldable pub plan_file : File
plan_file = record { path = plan_path; bytes = plan_text }

-- all files of the folder of a number
unfoldable pub made_files : ℕ → List File
made_files number = hours_file ∷ flat_map (security_files number) securities ++ plan_file ∷ []
