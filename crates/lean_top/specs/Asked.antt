-- What the words ask for, as the program holds it.
use Rattle.std.specs.Prelude.{◌≤◌, length, string_bytes}
use Rattle.lean_fixed.specs.Moments.{first_moment, last_moment}
use Rattle.lean_fixed.specs.Ranges.{IsWindow}
use Rattle.lean_fixed.specs.declared.time.Window.{Window}
use Rattle.lean_top.specs.declared.words.Command.{Command}
use Rattle.lean_top.specs.declared.words.Command.TheVariants.{DailyTape, SessionTape, Backtest, Demo}
use Rattle.lean_top.specs.Command.{Asked, DailyTape as AsksDaily, SessionTape as AsksSession, Backtest as AsksBacktest, Demo as AsksDemo}

abbrev pub asked_by : Command → Asked
asked_by (DailyTape symbols) = AsksDaily symbols.items
asked_by (SessionTape resolution window symbols) = AsksSession resolution window symbols.items
asked_by (Backtest path workers) = AsksBacktest (string_bytes path) workers
asked_by (Demo number workers) = AsksDemo number workers

-- a window whose last day is not before its first
pub record IsInOrder (window : Window) : Type 0 where
  pub is_window : IsWindow window
  pub order : first_moment window ≤ last_moment window

-- at most 64 symbols, and such a window, or at most 64 workers, and a number of at most six digits
abbrev pub IsAsked : Command → Type 0
IsAsked (DailyTape symbols) = length symbols.items ≤ 64
IsAsked (SessionTape resolution window symbols) = (length symbols.items ≤ 64) × IsInOrder window
IsAsked (Backtest path workers) = workers ≤ 64
IsAsked (Demo number workers) = (number ≤ 999999) × (workers ≤ 64)
