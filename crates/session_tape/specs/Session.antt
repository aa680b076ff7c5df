-- The session tape: a report that walks every minute from the first moment of its window to the last one, both included.
use Rattle.std.specs.Prelude.{ℕ, false, unsigned_abs, List, ◌++◌, map, flat_map, length, Option, Some, None}
use Rattle.lean_fixed.specs.Moments.{first_moment, last_moment}
use Rattle.lean_fixed.specs.Printed.{moment_text}
use Rattle.lean_fixed.specs.declared.resolution.Resolution.{Resolution}
use Rattle.lean_fixed.specs.declared.time.Window.{Window}
use Rattle.lean_io.specs.Told.{Files}
use Rattle.lean_items.specs.declared.bad.Bad.{Bad}
use Rattle.lean_items.specs.declared.bar.Bar.{Bar}
use Rattle.lean_items.specs.declared.feed_key.FeedKey.{FeedKey}
use Rattle.lean_items.specs.declared.feed_key.FeedKind.TheVariants.{Equity}
use Rattle.exchange_hours.specs.Entries.{Entries}
use Rattle.exchange_hours.specs.Sessions.{moment}
use Rattle.clock_steps.specs.Runs.{Ran, run, run_to}
use Rattle.clock_feeds.specs.Slices.{Source, source, slice, refused}
use Rattle.report_pages.specs.declared.trades.Trades.{Trades}
use Rattle.report_pages.specs.Lines.{row_line, end_line, data_line}

-- a bar and a malformed line, each with its symbol
abbrev pub SessionBar : Type 0
SessionBar = List ℕ × Bar

abbrev pub Refusal : Type 0
Refusal = List ℕ × Bad

-- the feed of a symbol: it starts with the window, and does not fill forward
abbrev pub session_key : Resolution → Window → List ℕ → FeedKey
session_key resolution window symbol =
    record { kind = Equity symbol resolution; start = moment (first_moment window); fill = false }

abbrev pub session_source : Files → Entries → Resolution → Window → List ℕ → List ℕ × Source
session_source files hours resolution window symbol =
    (symbol, source files hours window (session_key resolution window symbol) symbol resolution)

-- the symbols of the words, in their order, with what their files say
abbrev pub session_sources : Files → Entries → Resolution → Window → List (List ℕ) → List (List ℕ × Source)
session_sources files hours resolution window symbols = map (session_source files hours resolution window) symbols

-- A minute prints the bars that end then, in the order of the words, and then stops where a malformed line is due.
abbrev pub session_minute : List (List ℕ × Source) → ℕ → Unit {0} → Ran (Unit {0}) SessionBar Refusal
session_minute sources t u = record { lines = slice sources t; state = u; stop = refused sources t }

-- so many minutes from the first moment of the window on
abbrev pub session_minutes : List (List ℕ × Source) → Window → ℕ → Ran (Unit {0}) SessionBar Refusal
session_minutes sources window count = run (session_minute sources) count (first_moment window) tt

-- all of them
abbrev pub session : List (List ℕ × Source) → Window → Ran (Unit {0}) SessionBar Refusal
session sources window = run_to (session_minute sources) (first_moment window) (last_moment window) tt

-- the prices and the volume of a bar
abbrev pub bar_trades : Bar → Trades
bar_trades bar = record { opening = bar.opening; high = bar.high; low = bar.low; closing = bar.closing; volume = bar.volume }

-- the line of a bar, with its end in front
abbrev pub session_line : SessionBar → List ℕ
session_line (symbol, bar) = row_line (moment_text (unsigned_abs bar.end.0)) symbol (bar_trades bar)

abbrev pub session_text : List SessionBar → List ℕ
session_text bars = flat_map session_line bars

-- the last line of a session tape of so many bars
abbrev pub last_line : Resolution → ℕ → Option Refusal → List ℕ
last_line resolution bars None = end_line bars
last_line resolution bars (Some refusal) = data_line (Equity refusal.0 resolution) refusal.1

-- all that is printed
abbrev pub session_bytes : Resolution → Ran (Unit {0}) SessionBar Refusal → List ℕ
session_bytes resolution ran = session_text ran.lines ++ last_line resolution (length ran.lines) ran.stop
