-- How a command ends: with the whole report, or cut short for a named cause.
use Rattle.std.specs.Prelude.{◌≡◌, ℕ, ◌≤◌, ◌⊎◌, List, ◌++◌, Option, Some, None, IsSome, Result, Ok, Err, IsErr}
use Rattle.lean_fixed.specs.declared.resolution.Resolution.{Resolution}
use Rattle.lean_fixed.specs.declared.time.Window.{Window}
use Rattle.lean_io.specs.Told.{Files, Rose}
use Rattle.exchange_hours.specs.Entries.{Entries}
use Rattle.clock_steps.specs.Runs.{IsFrontOf}
use Rattle.clock_run.specs.Lines.{Halt, malformed, too_many_securities, too_many_requests}
use Rattle.rule_strategy.specs.declared.plan.Plan.{Plan}
use Rattle.session_tape.specs.Session.{session_sources, session}
use Rattle.lean_top.specs.declared.status.Status.{Status}
use Rattle.lean_top.specs.declared.status.Status.TheVariants.{Usage, Algorithm, BadRow, ReadFault, WriteFault, NoMemory, Limit}
use Rattle.lean_top.specs.Command.{Asked, DailyTape, SessionTape, Backtest, Demo, command}
use Rattle.daily_tape.specs.DailyTape.{securities, tape}
use Rattle.lean_top.specs.HoursRead.{hours_file}
use Rattle.lean_top.specs.AlgorithmRead.{algorithm_in}
use Rattle.data_maker.specs.MadeFiles.{plan_path}
use Rattle.lean_top.specs.Report.{setup_of, backtest_over, made_folder, report, AreWholeSteps}

-- What is seen of a folder and a sink at one time: the files, where the folder tells them, the bytes, where the sink tells
-- them, and both counts of faults.
pub record Seen : Type 0 where
  pub files : Option Files
  pub told : Option (List ℕ)
  pub folder : ℕ
  pub sink : ℕ

-- A status that ends a report before its end, with its cause. Want of memory needs none.
abbrev pub IsStop : Seen → Seen → Status → Type 0
IsStop old new NoMemory = Unit {0}
IsStop old new ReadFault = Rose old.folder new.folder
IsStop old new WriteFault = Rose old.sink new.sink
IsStop old new _ = ⊥

-- These bytes and this status are the report's; or the bytes are a front of the report's, and the status is a stop.
abbrev pub Ends : List ℕ × Status → List ℕ → Seen → Seen → Status → Type 0
Ends want bytes old new status = ((bytes, status) ≡ want) ⊎ (IsFrontOf bytes want.0 × IsStop old new status)

-- what the sink tells is what it told before and then bytes with which the command ends
abbrev pub Meets : List ℕ × Status → List ℕ → Seen → Seen → Status → Type 0
Meets want before old new status = (bytes : List ℕ) × (new.told ≡ Some (before ++ bytes)) × Ends want bytes old new status

-- nothing but want of memory cut the report short
abbrev pub IsComplete : List ℕ × Status → List ℕ → Option (List ℕ) → Status → Type 0
IsComplete want before told status =
    ((status ≡ want.1) × (told ≡ Some (before ++ want.0)))
    ⊎ ((status ≡ NoMemory) × ((bytes : List ℕ) × (told ≡ Some (before ++ bytes)) × IsFrontOf bytes want.0))

-- A status comes exactly where a fact holds; it yields to want of memory and to a fault of the outside alone.
pub record ComesExactly (P : Type 0) (status result : Status) : Type 0 where
  pub only : result ≡ status → P
  pub always : P → (result ≡ status) ⊎ ((result ≡ NoMemory) ⊎ ((result ≡ ReadFault) ⊎ (result ≡ WriteFault)))

-- the words are none that are taken
abbrev pub AreRefused : List (List ℕ) → Type 0
AreRefused words = command words ≡ None

-- the algorithm file is missing, too large or refused, or else the hours file is
abbrev pub RefusesPlan : Files → Result Plan (List ℕ) → Type 0
RefusesPlan files (Err words) = Unit {0}
RefusesPlan files (Ok plan) = IsErr (hours_file files)

-- the words ask for a session tape or a backtest, and a file that it reads first is missing, too large or refused: the hours
-- file, or the algorithm file of a backtest; a demo is the backtest of the folder that is made from its number
abbrev pub RefusesFiles : Files → Option Asked → Type 0
RefusesFiles files None = ⊥
RefusesFiles files (Some (DailyTape symbols)) = ⊥
RefusesFiles files (Some (SessionTape resolution window symbols)) = IsErr (hours_file files)
RefusesFiles files (Some (Backtest path workers)) = RefusesPlan files (algorithm_in (files path))
RefusesFiles files (Some (Demo number workers)) = RefusesPlan (made_folder number) (algorithm_in (made_folder number plan_path))

-- a malformed line stops the session tape, where its hours are read
abbrev pub StopsSession : Files → Resolution → Window → List (List ℕ) → Result Entries (List ℕ) → Type 0
StopsSession files resolution window symbols (Err word) = ⊥
StopsSession files resolution window symbols (Ok hours) =
    IsSome (session (session_sources files hours resolution window symbols) window).stop

-- a malformed line is due, or there is no room for one more security or request
abbrev pub IsBadRow : Option Halt → Type 0
IsBadRow None = ⊥
IsBadRow (Some (malformed kind bad)) = Unit {0}
IsBadRow (Some too_many_securities) = ⊥
IsBadRow (Some too_many_requests) = ⊥

abbrev pub IsLimit : Option Halt → Type 0
IsLimit None = ⊥
IsLimit (Some (malformed kind bad)) = ⊥
IsLimit (Some too_many_securities) = Unit {0}
IsLimit (Some too_many_requests) = Unit {0}

-- a backtest is halted so, where its algorithm file and its hours are read
abbrev pub HaltsWith : (Option Halt → Type 0) → Files → Plan → Result Entries (List ℕ) → Type 0
HaltsWith IsSo files plan (Err word) = ⊥
HaltsWith IsSo files plan (Ok hours) = IsSo (backtest_over files (setup_of plan hours)).stop

abbrev pub HaltsBy : (Option Halt → Type 0) → Files → Result Plan (List ℕ) → Type 0
HaltsBy IsSo files (Err words) = ⊥
HaltsBy IsSo files (Ok plan) = HaltsWith IsSo files plan (hours_file files)

-- the words ask for a tape, a backtest or a demo, and a malformed line stops it
abbrev pub HasBadRow : Files → Option Asked → Type 0
HasBadRow files None = ⊥
HasBadRow files (Some (DailyTape symbols)) = IsSome (tape (securities files symbols)).stop
HasBadRow files (Some (SessionTape resolution window symbols)) = StopsSession files resolution window symbols (hours_file files)
HasBadRow files (Some (Backtest path workers)) = HaltsBy IsBadRow files (algorithm_in (files path))
HasBadRow files (Some (Demo number workers)) = HaltsBy IsBadRow (made_folder number) (algorithm_in (made_folder number plan_path))

-- the words ask for a backtest or a demo, and a limit stops it
abbrev pub HasLimit : Files → Option Asked → Type 0
HasLimit files None = ⊥
HasLimit files (Some (DailyTape symbols)) = ⊥
HasLimit files (Some (SessionTape resolution window symbols)) = ⊥
HasLimit files (Some (Backtest path workers)) = HaltsBy IsLimit files (algorithm_in (files path))
HasLimit files (Some (Demo number workers)) = HaltsBy IsLimit (made_folder number) (algorithm_in (made_folder number plan_path))

-- what was printed is the lines of whole days or moments, up to some one, or nothing
abbrev pub PrintsWholeSteps : Files → List (List ℕ) → List ℕ → Option (List ℕ) → Type 0
PrintsWholeSteps files words before told = (bytes : List ℕ) × AreWholeSteps files (command words) bytes × (told ≡ Some (before ++ bytes))

-- What a command line has done, from what was seen before it to what is seen after it.
pub record HasRun (words : List (List ℕ)) (old new : Seen) (status : Status) : Type 0 where
  -- the printed bytes and the status are those of the report over the folder's files, or they are cut short for a cause
  pub headline : (files : Files) (before : List ℕ) → old.files ≡ Some files → old.told ≡ Some before
      → Meets (report files words) before old new status
  -- where no count of faults rose, nothing but want of memory cuts them short
  pub complete : (files : Files) (before : List ℕ) → old.files ≡ Some files → old.told ≡ Some before
      → ¬ Rose old.folder new.folder → ¬ Rose old.sink new.sink → IsComplete (report files words) before new.told status
  -- the causes of the statuses, whatever the folder and the sink tell
  pub usage : ComesExactly (AreRefused words) Usage status
  pub algorithm : (files : Files) → old.files ≡ Some files → ComesExactly (RefusesFiles files (command words)) Algorithm status
  pub bad_row : (files : Files) → old.files ≡ Some files → ComesExactly (HasBadRow files (command words)) BadRow status
  pub limit : (files : Files) → old.files ≡ Some files → ComesExactly (HasLimit files (command words)) Limit status
  pub read_fault : status ≡ ReadFault → Rose old.folder new.folder
  pub write_fault : status ≡ WriteFault → Rose old.sink new.sink
  -- a failed read stops a tape or a backtest where its row is needed, behind the lines of whole days or moments
  pub whole_steps : status ≡ ReadFault → (files : Files) (before : List ℕ) → old.files ≡ Some files → old.told ≡ Some before
      → PrintsWholeSteps files words before new.told
  -- what the folder tells stays, and no count falls
  pub kept : new.files ≡ old.files
  pub folder_grows : old.folder ≤ new.folder
  pub sink_grows : old.sink ≤ new.sink
