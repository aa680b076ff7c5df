-- A command line that runs a backtest.
use Rattle.std.specs.Prelude.{◌≡◌, ℕ, List, Some, Ok}
use Rattle.lean_io.specs.Told.{Files}
use Rattle.clock_run.specs.States.{Setup}
use Rattle.lean_top.specs.AlgorithmRead.{algorithm_in}
use Rattle.lean_top.specs.Command.{Backtest, command}
use Rattle.lean_top.specs.HoursRead.{hours_file}

-- the words ask for the backtest of the algorithm file at a path, and that file and the hours file are read: they say this plan and
-- these hours
pub record RunsBacktest (files : Files) (words : List (List ℕ)) (setup : Setup) : Type 0 where
  pub path : List ℕ
  pub workers : ℕ
  pub asked : command words ≡ Some (Backtest path workers)
  pub algorithm : algorithm_in (files path) ≡ Ok setup.plan
  pub hours : hours_file files ≡ Ok setup.hours
