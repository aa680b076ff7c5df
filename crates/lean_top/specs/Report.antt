-- The report of a command line over the files of a folder: what is printed, and the status.
use Rattle.std.specs.Prelude.{◌≡◌, ℕ, ◌+◌, ◌-◌, ◌≤◌, ◌⊎◌, List, [], ◌∷◌, ◌++◌, codes, decimal, flat_map, Option, Some, None, Result, Ok, Err}
use Rattle.lean_fixed.specs.declared.resolution.Resolution.{Resolution}
use Rattle.lean_fixed.specs.declared.time.Window.{Window}
use Rattle.lean_fixed.specs.Moments.{first_moment, last_moment}
use Rattle.lean_io.specs.Told.{Files}
use Rattle.exchange_hours.specs.Entries.{Entries}
use Rattle.clock_feeds.specs.Slices.{Source}
use Rattle.clock_steps.specs.Runs.{Ran}
use Rattle.clock_run.specs.Lines.{Line, Halt, malformed, too_many_securities, too_many_requests, line_bytes}
use Rattle.clock_run.specs.Known.{World}
use Rattle.clock_run.specs.States.{Setup, State}
use Rattle.clock_run.specs.Reports.{moments, backtest, report_bytes}
use Rattle.clock_run.specs.Worlds.{world_of}
use Rattle.rule_strategy.specs.declared.plan.Plan.{Plan}
use Rattle.report_pages.specs.declared.ended.Ended.{Ended}
use Rattle.report_pages.specs.declared.ended.Ended.TheVariants as ended
use Rattle.report_pages.specs.Ended.{ended_by}
use Rattle.session_tape.specs.Session.{SessionBar, Refusal, session_sources, session, session_text, session_bytes}
use Rattle.session_tape.specs.Whole.{IsWhole as IsWholeSession}
use Rattle.lean_top.specs.declared.status.Status.{Status}
use Rattle.lean_top.specs.declared.status.Status.TheVariants.{Done, Usage, Algorithm, BadRow, ReadFault, Limit}
use Rattle.lean_top.specs.Command.{Asked, DailyTape, SessionTape, Backtest, Demo, command}
use Rattle.daily_tape.specs.DailyTape.{Security, TapeRow, Refusal as DailyRefusal, securities, tape, tape_text, tape_bytes}
use Rattle.lean_top.specs.HoursRead.{hours_file, hours_line}
use Rattle.lean_top.specs.AlgorithmRead.{algorithm_in, algorithm_line}
use Rattle.daily_tape.specs.Whole.{IsWhole}
use Rattle.data_maker.specs.MadeFiles.{files_of, made_files, plan_path}
use Rattle.lean_top.specs.CloseTail.{behind_close}

-- the status of a tape
abbrev pub ended_status : Ended → Status
ended_status ended.Done = Done
ended_status ended.BadRow = BadRow
ended_status ended.ReadFault = ReadFault

abbrev pub daily_report_of : Ran (Unit {0}) TapeRow DailyRefusal → List ℕ × Status
daily_report_of ran = (tape_bytes ran, ended_status (ended_by ran.stop))

abbrev pub session_report_of : Resolution → Ran (Unit {0}) SessionBar Refusal → List ℕ × Status
session_report_of resolution ran = (session_bytes resolution ran, ended_status (ended_by ran.stop))

-- the session tape, with the hours where their file is read, or the line that refuses it
abbrev pub session_with : Files → Resolution → Window → List (List ℕ) → Result Entries (List ℕ) → List ℕ × Status
session_with files resolution window symbols (Err word) = (hours_line word, Algorithm)
session_with files resolution window symbols (Ok hours) =
    session_report_of resolution (session (session_sources files hours resolution window symbols) window)

-- the status of a backtest, by what halted it
abbrev pub halt_status : Option Halt → Status
halt_status None = Done
halt_status (Some (malformed kind bad)) = BadRow
halt_status (Some too_many_securities) = Limit
halt_status (Some too_many_requests) = Limit

abbrev pub setup_of : Plan → Entries → Setup
setup_of plan hours = record { plan = plan; hours = hours }

-- what is known of the folder's files, moment by moment, and the backtest over that
abbrev pub world_for : Files → Setup → World
world_for files setup = world_of files setup.hours setup.plan.window

abbrev pub backtest_over : Files → Setup → Ran State Line Halt
backtest_over files setup = backtest setup (world_for files setup)

abbrev pub backtest_report_of : Setup → Ran State Line Halt → List ℕ × Status
backtest_report_of setup ran = (report_bytes setup ran, halt_status ran.stop)

-- the backtest of a plan, with the hours where their file is read, or the line that refuses it
abbrev pub backtest_with : Files → Plan → Result Entries (List ℕ) → List ℕ × Status
backtest_with files plan (Err word) = (hours_line word, Algorithm)
backtest_with files plan (Ok hours) = backtest_report_of (setup_of plan hours) (backtest_over files (setup_of plan hours))

-- the same with the plan where its file is read, or the line that refuses it
abbrev pub backtest_by : Files → Result Plan (List ℕ) → List ℕ × Status
backtest_by files (Err words) = (algorithm_line words, Algorithm)
backtest_by files (Ok plan) = backtest_with files plan (hours_file files)

-- the backtest of the algorithm file at a path: it is read first, and then the hours file
abbrev pub backtest_report : Files → List ℕ → List ℕ × Status
backtest_report files path = backtest_by files (algorithm_in (files path))

-- the folder that is made from a number, and the backtest of its algorithm file
abbrev pub made_folder : ℕ → Files
made_folder number = files_of (made_files number)

abbrev pub made_report : ℕ → List ℕ × Status
made_report number = backtest_report (made_folder number) plan_path

abbrev pub demo_line : ℕ → List ℕ
demo_line number = codes "demo " ++ decimal number ++ 10 ∷ []

-- the demo of a number: its line, and what follows the last close line of that backtest
abbrev pub demo_report : ℕ → List ℕ × Status
demo_report number = (demo_line number ++ behind_close (made_report number).0, (made_report number).1)

abbrev pub report_of : Files → Option Asked → List ℕ × Status
report_of files None = (codes "usage\n", Usage)
report_of files (Some (DailyTape symbols)) = daily_report_of (tape (securities files symbols))
report_of files (Some (SessionTape resolution window symbols)) = session_with files resolution window symbols (hours_file files)
report_of files (Some (Backtest path workers)) = backtest_report files path
report_of files (Some (Demo number workers)) = demo_report number

abbrev pub report : Files → List (List ℕ) → List ℕ × Status
report files words = report_of files (command words)

-- bytes that are the lines of whole days of a daily tape, of all up to some one
abbrev pub AreDaysOf : List Security → List ℕ → Type 0
AreDaysOf all bytes = (rows : List TapeRow) × IsWhole all rows × (bytes ≡ tape_text rows)

-- bytes that are the lines of whole minutes of a session tape, of all moments up to some one
abbrev pub AreMinutesBy : List (List ℕ × Source) → Window → List ℕ → Type 0
AreMinutesBy sources window bytes = (bars : List SessionBar) × IsWholeSession sources window bars × (bytes ≡ session_text bars)

abbrev pub AreMinutes : Files → Resolution → Window → List (List ℕ) → Result Entries (List ℕ) → List ℕ → Type 0
AreMinutes files resolution window symbols (Err word) bytes = ⊥
AreMinutes files resolution window symbols (Ok hours) bytes = AreMinutesBy (session_sources files hours resolution window symbols) window bytes

-- bytes that are the lines of whole moments of a backtest, of all up to some one
pub record AreMomentsOf (setup : Setup) (world : World) (bytes : List ℕ) : Type 0 where
  pub count : ℕ
  pub small : count ≤ last_moment setup.plan.window + 1 - first_moment setup.plan.window
  pub is : bytes ≡ flat_map line_bytes (moments setup world count).lines

abbrev pub AreMomentsWith : Files → Plan → Result Entries (List ℕ) → List ℕ → Type 0
AreMomentsWith files plan (Err word) bytes = ⊥
AreMomentsWith files plan (Ok hours) bytes = AreMomentsOf (setup_of plan hours) (world_for files (setup_of plan hours)) bytes

-- those, or nothing
abbrev pub StepsWith : Files → Plan → Result Entries (List ℕ) → List ℕ → Type 0
StepsWith files plan hours bytes = (bytes ≡ []) ⊎ AreMomentsWith files plan hours bytes

abbrev pub AreMomentsBy : Files → Result Plan (List ℕ) → List ℕ → Type 0
AreMomentsBy files (Err words) bytes = ⊥
AreMomentsBy files (Ok plan) bytes = AreMomentsWith files plan (hours_file files) bytes

-- bytes that are the lines of whole steps of a report: of the first days of the daily tape, or of the first minutes of the
-- session tape or of a backtest, or nothing; a demo reads nothing of the folder, so no read of it fails
abbrev pub AreWholeSteps : Files → Option Asked → List ℕ → Type 0
AreWholeSteps files None bytes = ⊥
AreWholeSteps files (Some (DailyTape symbols)) bytes = AreDaysOf (securities files symbols) bytes
AreWholeSteps files (Some (SessionTape resolution window symbols)) bytes =
    (bytes ≡ []) ⊎ AreMinutes files resolution window symbols (hours_file files) bytes
AreWholeSteps files (Some (Backtest path workers)) bytes = (bytes ≡ []) ⊎ AreMomentsBy files (algorithm_in (files path)) bytes
AreWholeSteps files (Some (Demo number workers)) bytes = ⊥
