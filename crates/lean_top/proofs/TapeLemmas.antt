-- What was printed of a tape is its report.
use Rattle.std.proofs.Common.{◌≡◌, ℕ, List, refl, ap, subst}
use Rattle.std.specs.Prelude.{Option, Some, Result, Ok, Err, IfOk, IfErr, OnErr}
use Rattle.lean_fixed.specs.declared.resolution.Resolution.{Resolution}
use Rattle.lean_fixed.specs.declared.time.Window.{Window}
use Rattle.lean_io.specs.Told.{Files, Rose}
use Rattle.clock_feeds.specs.Slices.{Source}
use Rattle.clock_steps.specs.Runs.{IsFrontOf}
use Rattle.daily_tape.specs.DailyTape.{Security, TapeRow, securities, tape, tape_text, tape_bytes}
use Rattle.daily_tape.specs.Endings.{IsReport as IsDailyReport, IsReportFront as IsDailyFront}
use Rattle.daily_tape.specs.Whole.{IsWhole as IsWholeDays}
use Rattle.report_pages.specs.declared.pages.Stop.{Stop}
use Rattle.report_pages.specs.declared.pages.Stop.TheVariants as stop
use Rattle.report_pages.specs.Printed.{HasCause}
use Rattle.report_pages.specs.declared.ended.Ended.{Ended}
use Rattle.report_pages.specs.declared.ended.Ended.TheVariants as ended
use Rattle.session_tape.specs.Reports.{IsReport, IsReportFront}
use Rattle.session_tape.specs.Session.{SessionBar, session, session_text, session_bytes}
use Rattle.session_tape.specs.Whole.{IsWhole}
use Rattle.lean_top.specs.declared.status.Status.{Status}
use Rattle.lean_top.specs.Outcome.{HasReported, HasStatusCause, tape_status}
use Rattle.lean_top.specs.Command.{Asked, DailyTape}
use Rattle.lean_top.specs.Report.{report_of, AreWholeSteps, daily_report_of, AreDaysOf, session_report_of, AreMinutesBy, ended_status}

-- the daily tape, by how it ended
pub daily_reported : (all : List Security) → ((rows : List TapeRow) → IsWholeDays all rows → IsFrontOf (tape_text rows) (tape_bytes (tape all)))
    → (result : Result Ended Stop) (before after : Option (List ℕ)) → IfOk result (IsDailyReport all before after) → OnErr result (IsDailyFront all before after)
    → HasReported (daily_report_of (tape all)) (AreDaysOf all) before after (tape_status result)
daily_reported all fronts (Ok ended.Done) before after (is, taken) front = (ap ended_status is, taken)
daily_reported all fronts (Ok ended.BadRow) before after (is, taken) front = (ap ended_status is, taken)
daily_reported all fronts (Ok ended.ReadFault) before after (rows, whole, taken) front = (tape_text rows, (rows, whole, refl), fronts rows whole, taken)
daily_reported all fronts (Err stop.NoMemory) before after told front = front
daily_reported all fronts (Err stop.WriteFault) before after told front = front

-- the session tape over a pool, by how it ended
module _ (resolution : Resolution) (window : Window) (sources : List (List ℕ × Source))
    (fronts : (bars : List SessionBar) → IsWhole sources window bars → IsFrontOf (session_text bars) (session_bytes resolution (session sources window))) where
  pub tape_reported : (result : Result Ended Stop) (before after : Option (List ℕ)) → IfOk result (IsReport resolution window sources before after)
      → OnErr result (IsReportFront resolution window sources before after)
      → HasReported (session_report_of resolution (session sources window)) (AreMinutesBy sources window) before after (tape_status result)
  tape_reported (Ok ended.Done) before after (is, taken) front = (ap ended_status is, taken)
  tape_reported (Ok ended.BadRow) before after (is, taken) front = (ap ended_status is, taken)
  tape_reported (Ok ended.ReadFault) before after (bars, whole, taken) front = (session_text bars, (bars, whole, refl), fronts bars whole, taken)
  tape_reported (Err stop.NoMemory) before after told front = front
  tape_reported (Err stop.WriteFault) before after told front = front

-- the daily tape of the symbols of the words
pub daily_asked : (files : Files) (asked : Asked) (symbols items : List (List ℕ)) (before after : Option (List ℕ)) (status : Status) → asked ≡ DailyTape symbols → items ≡ symbols
    → HasReported (daily_report_of (tape (securities files items))) (AreDaysOf (securities files items)) before after status
    → HasReported (report_of files (Some asked)) (AreWholeSteps files (Some asked)) before after status
daily_asked files asked symbols items before after status is same has =
    rw is (subst (λ l. HasReported (daily_report_of (tape (securities files l))) (AreDaysOf (securities files l)) before after status) same has)

-- where a fault of the outside is the status of a tape, it was counted
pub caused : (result : Result Ended Stop) (folder folder_now sink sink_now : ℕ) → IfOk result (λ (e : Ended). e ≡ ended.ReadFault → Rose folder folder_now)
    → IfErr result (HasCause sink sink_now) → HasStatusCause folder folder_now sink sink_now (tape_status result)
caused (Ok ended.Done) folder folder_now sink sink_now fault cause = tt
caused (Ok ended.BadRow) folder folder_now sink sink_now fault cause = tt
caused (Ok ended.ReadFault) folder folder_now sink sink_now fault cause = fault refl
caused (Err stop.NoMemory) folder folder_now sink sink_now fault cause = tt
caused (Err stop.WriteFault) folder folder_now sink sink_now fault cause = cause
