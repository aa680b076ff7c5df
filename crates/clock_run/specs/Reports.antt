-- The report of a backtest: every minute from the first moment of the window to the last, and what was printed.
use Rattle.std.specs.Prelude.{ℕ, List, ◌++◌, flat_map, Option, Some, None}
use Rattle.lean_fixed.specs.Moments.{first_moment, last_moment}
use Rattle.clock_steps.specs.Runs.{Ran, run, run_to}
use Rattle.clock_run.specs.Lines.{Line, Halt, line_bytes, halt_bytes}
use Rattle.clock_run.specs.Known.{World}
use Rattle.clock_run.specs.States.{Setup, State, opening}
use Rattle.clock_run.specs.Moments.{moment_of}
use Rattle.clock_run.specs.Summary.{summary}

abbrev pub step_of : Setup → World → ℕ → State → Ran State Line Halt
step_of setup world t s = moment_of setup t (world t) s

-- so many moments from the first one on
abbrev pub moments : Setup → World → ℕ → Ran State Line Halt
moments setup world count = run (step_of setup world) count (first_moment setup.plan.window) (opening setup)

-- all moments of the window
abbrev pub backtest : Setup → World → Ran State Line Halt
backtest setup world =
    run_to (step_of setup world) (first_moment setup.plan.window) (last_moment setup.plan.window) (opening setup)

-- what halted the backtest, or its summary
abbrev pub last_lines : Setup → State → Option Halt → List ℕ
last_lines setup s (Some halt) = halt_bytes halt
last_lines setup s None = summary setup.plan.cash.0 s.book s.equities

unfoldable pub report_bytes : Setup → Ran State Line Halt → List ℕ
report_bytes setup ran = flat_map line_bytes ran.lines ++ last_lines setup ran.state ran.stop
