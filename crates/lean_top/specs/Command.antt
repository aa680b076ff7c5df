-- The words of a command line.
use Rattle.std.specs.Prelude.{ℕ, ◌-◌, Bool, false, true, not, ◌&&◌, ◌==◌, nat_le, bytes_eq, take, drop, if◌then◌else◌, pos, List, [], ◌∷◌, length, Option, Some, None, option_map, option_and_then, codes}
use Rattle.std.specs.List.{list_all, list_any}
use Rattle.lean_fixed.specs.Calendar.{last_day, day_of_digits}
use Rattle.lean_fixed.specs.Digits.{digits}
use Rattle.lean_fixed.specs.Symbol.{is_symbol}
use Rattle.lean_fixed.specs.declared.resolution.Resolution.{Resolution}
use Rattle.lean_fixed.specs.declared.resolution.Resolution.TheVariants.{Minute, Hour, Daily}
use Rattle.lean_fixed.specs.declared.time.Window.{Window}

-- what is asked for: the daily tape of some symbols, the session tape of a resolution and a window, the backtest of the
-- algorithm file at a path, with so many workers, or the demo of a number, with so many workers
pub data Asked : Type 0 where
  DailyTape : List (List ℕ) → Asked
  SessionTape : Resolution → Window → List (List ℕ) → Asked
  Backtest : List ℕ → ℕ → Asked
  Demo : ℕ → ℕ → Asked

-- no text stands twice
abbrev pub all_differ : List (List ℕ) → Bool
all_differ [] = true
all_differ (text ∷ texts) = not (list_any (bytes_eq text) texts) && all_differ texts

-- 1 to 64 different symbols
abbrev pub are_symbols : List (List ℕ) → Bool
are_symbols words = nat_le 1 (length words) && nat_le (length words) 64 && list_all is_symbol words && all_differ words

abbrev pub symbols_of : List (List ℕ) → Option (List (List ℕ))
symbols_of words = if are_symbols words then Some words else None

abbrev pub resolution_of : List ℕ → Option Resolution
resolution_of word =
    if bytes_eq word (codes "minute") then Some Minute
    else (if bytes_eq word (codes "hour") then Some Hour
    else (if bytes_eq word (codes "daily") then Some Daily else None))

-- a day from 1970-01-02 to 2199-12-30
abbrev pub if_window_day : ℕ → Option ℕ
if_window_day day = if nat_le 1 day && nat_le day (last_day - 1) then Some day else None

abbrev pub window_day : List ℕ → Option ℕ
window_day word = option_and_then if_window_day (day_of_digits word)

abbrev pub window_from : ℕ → ℕ → Window
window_from first last = record { first = record { 0 = pos first }; last = record { 0 = pos last } }

-- a window from one day to another that does not lie before it
abbrev pub window_of : Option ℕ → Option ℕ → Option Window
window_of None last = None
window_of (Some first) None = None
window_of (Some first) (Some last) = if nat_le first last then Some (window_from first last) else None

abbrev pub session_tape : Option Resolution → Option Window → Option (List (List ℕ)) → Option Asked
session_tape None window symbols = None
session_tape (Some resolution) None symbols = None
session_tape (Some resolution) (Some window) None = None
session_tape (Some resolution) (Some window) (Some symbols) = Some (SessionTape resolution window symbols)

-- `RES FIRST LAST SYMBOL ..`
abbrev pub session_words : List (List ℕ) → Option Asked
session_words [] = None
session_words (resolution ∷ []) = None
session_words (resolution ∷ first ∷ []) = None
session_words (resolution ∷ first ∷ last ∷ symbols) =
    session_tape (resolution_of resolution) (window_of (window_day first) (window_day last)) (symbols_of symbols)

-- `SYMBOL ..` or the former
abbrev pub daily_or_session : List (List ℕ) → Option (List (List ℕ)) → Option Asked
daily_or_session words None = session_words words
daily_or_session words (Some symbols) = Some (DailyTape symbols)

-- what `tape` and these words ask for
abbrev pub tape_words : List (List ℕ) → Option Asked
tape_words words = daily_or_session words (symbols_of words)

-- a word that is not empty, and no option
abbrev pub is_plain : List ℕ → Bool
is_plain [] = false
is_plain (byte ∷ bytes) = not (byte == 45)

-- at most 64
abbrev pub if_few : ℕ → Option ℕ
if_few count = if nat_le count 64 then Some count else None

-- the number of workers that one or two digits say
abbrev pub workers_of : List ℕ → Option ℕ
workers_of text = if nat_le (length text) 2 then option_and_then if_few (digits text) else None

-- the number in `--workers=K`
abbrev pub workers_in : List ℕ → Option ℕ
workers_in word = if bytes_eq (take 10 word) (codes "--workers=") then workers_of (drop 10 word) else None

-- the number in `--workers K`
abbrev pub workers_by : List ℕ → List ℕ → Option ℕ
workers_by name number = if bytes_eq name (codes "--workers") then workers_of number else None

-- a plain word with a number of workers, where there is one
abbrev pub with_number : List ℕ → Option ℕ → Option (List ℕ × ℕ)
with_number word None = None
with_number word (Some workers) = if is_plain word then Some (word, workers) else None

abbrev pub or_else : Option (List ℕ × ℕ) → Option (List ℕ × ℕ) → Option (List ℕ × ℕ)
or_else None other = other
or_else (Some found) other = Some found

-- a plain word, and in front of it or behind it `--workers=K` or `--workers K`, once or not at all: the word and the number,
-- which is 0 where it is not said
abbrev pub word_and_workers : List (List ℕ) → Option (List ℕ × ℕ)
word_and_workers [] = None
word_and_workers (word ∷ []) = with_number word (Some 0)
word_and_workers (first ∷ second ∷ []) = or_else (with_number first (workers_in second)) (with_number second (workers_in first))
word_and_workers (first ∷ second ∷ third ∷ []) =
    or_else (with_number first (workers_by second third)) (with_number third (workers_by first second))
word_and_workers (first ∷ second ∷ third ∷ fourth ∷ words) = None

abbrev pub backtest_of : Option (List ℕ × ℕ) → Option Asked
backtest_of None = None
backtest_of (Some (path, workers)) = Some (Backtest path workers)

-- what `backtest` and these words ask for
abbrev pub backtest_words : List (List ℕ) → Option Asked
backtest_words words = backtest_of (word_and_workers words)

-- the number that one to six digits say
abbrev pub demo_number : List ℕ → Option ℕ
demo_number text = if nat_le (length text) 6 then digits text else None

abbrev pub demo_of : Option (List ℕ × ℕ) → Option Asked
demo_of None = None
demo_of (Some (text, workers)) = option_map (λ number. Demo number workers) (demo_number text)

-- what `demo` and these words ask for
abbrev pub demo_words : List (List ℕ) → Option Asked
demo_words words = demo_of (word_and_workers words)

-- what the words of a command line ask for, or nothing where they are none that are taken
abbrev pub command : List (List ℕ) → Option Asked
command [] = None
command (name ∷ words) =
    if bytes_eq name (codes "tape") then tape_words words
    else (if bytes_eq name (codes "backtest") then backtest_words words
    else (if bytes_eq name (codes "demo") then demo_words words else None))
