-- The lines of a backtest up to a moment, and folders that are the same as far as rows end by it.
use Rattle.std.specs.Prelude.{◌≡◌, ℕ, ◌+◌, ◌-◌, min, List, [], flat_map, Result, Ok, Err}
use Rattle.lean_fixed.specs.Moments.{first_moment, last_moment}
use Rattle.lean_fixed.specs.declared.time.Window.{Window}
use Rattle.lean_io.specs.Told.{Files}
use Rattle.exchange_hours.specs.Entries.{Entries}
use Rattle.rule_strategy.specs.declared.plan.Plan.{Plan}
use Rattle.clock_feeds.specs.Ahead.{AreWellFormed, AgreeUntil}
use Rattle.clock_run.specs.Lines.{Line, line_bytes}
use Rattle.clock_run.specs.Reports.{moments}
use Rattle.lean_top.specs.AlgorithmRead.{algorithm_in}
use Rattle.lean_top.specs.HoursRead.{hours_path, hours_file}
use Rattle.lean_top.specs.Report.{setup_of, world_for}

-- how many moments of a window there are up to one, which may lie past its end
abbrev pub count_until : ℕ → Window → ℕ
count_until t window = min t (last_moment window) + 1 - first_moment window

-- the lines of all moments up to one, where the hours file is read
abbrev pub lines_with : ℕ → Files → Plan → Result Entries (List ℕ) → List Line
lines_with t files plan (Err word) = []
lines_with t files plan (Ok hours) =
    (moments (setup_of plan hours) (world_for files (setup_of plan hours)) (count_until t plan.window)).lines

-- the same, where the algorithm file is read
abbrev pub lines_by : ℕ → Files → Result Plan (List ℕ) → List Line
lines_by t files (Err words) = []
lines_by t files (Ok plan) = lines_with t files plan (hours_file files)

-- what is printed of all moments up to one in the backtest of the algorithm file at a path
abbrev pub printed_until : ℕ → Files → List ℕ → List ℕ
printed_until t files path = flat_map line_bytes (lines_by t files (algorithm_in (files path)))

-- no line of the feeds of a window is malformed in two folders, and in each file of them the rows that end by a moment are
-- the same
pub record FeedsAgree (t : ℕ) (files other : Files) (hours : Entries) (window : Window) : Type 0 where
  pub formed : AreWellFormed files hours window
  pub other_formed : AreWellFormed other hours window
  pub rows : AgreeUntil t files other hours window

-- the feeds of a backtest, where both files that it reads first are read
abbrev pub FeedsAgreeBy : ℕ → Files → Files → Result Plan (List ℕ) → Result Entries (List ℕ) → Type 0
FeedsAgreeBy t files other (Ok plan) (Ok hours) = FeedsAgree t files other hours plan.window
FeedsAgreeBy t files other algorithm hours = Unit {0}

-- Two folders that have the same algorithm file at a path and the same hours file, and whose feeds agree up to a moment.
pub record AreAlikeUntil (t : ℕ) (path : List ℕ) (files other : Files) : Type 0 where
  pub algorithm : other path ≡ files path
  pub hours : other hours_path ≡ files hours_path
  pub feeds : FeedsAgreeBy t files other (algorithm_in (files path)) (hours_file files)
