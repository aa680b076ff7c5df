-- What the parts of a command have printed, and why they ended.
use Rattle.std.specs.Prelude.{◌≡◌, ℕ, ◌≤◌, List, Option, codes, Result, Ok, Err}
use Rattle.lean_io.specs.Told.{Files, Rose}
use Rattle.clock_steps.specs.Runs.{IsFrontOf}
use Rattle.report_pages.specs.declared.pages.Stop.{Stop}
use Rattle.report_pages.specs.declared.pages.Stop.TheVariants.{NoMemory as OutOfMemory, WriteFault as FailedWrite}
use Rattle.lean_top.specs.declared.status.Status.{Status}
use Rattle.lean_top.specs.declared.status.Status.TheVariants.{Done, Usage, Algorithm, BadRow, ReadFault, WriteFault, NoMemory, Limit}
use Rattle.report_pages.specs.declared.ended.Ended.{Ended}
use Rattle.backtest_engine.specs.declared.ended.Ended.{Ended as RunEnded}
use Rattle.backtest_engine.specs.declared.ended.Ended.TheVariants as run
use Rattle.lean_top.specs.Report.{ended_status}
use Rattle.report_pages.specs.Printed.{IsTaken, IsFront}

-- the status of a stop
abbrev pub stop_status : Stop → Status
stop_status OutOfMemory = NoMemory
stop_status FailedWrite = WriteFault

-- What the sink took of a report, by the status: all of it; a front of it where memory or a write failed; and where a read
-- failed, some whole steps of it.
abbrev pub HasReported : List ℕ × Status → (List ℕ → Type 0) → Option (List ℕ) → Option (List ℕ) → Status → Type 0
HasReported want IsSteps before after NoMemory = IsFront before after want.0
HasReported want IsSteps before after WriteFault = IsFront before after want.0
HasReported want IsSteps before after ReadFault =
    (bytes : List ℕ) × IsSteps bytes × IsFrontOf bytes want.0 × IsTaken before after bytes
HasReported want IsSteps before after status = (status ≡ want.1) × IsTaken before after want.0

-- what it took of the line `usage`
abbrev pub HasUsage : Option (List ℕ) → Option (List ℕ) → Status → Type 0
HasUsage before after Usage = IsTaken before after (codes "usage\n")
HasUsage before after NoMemory = IsFront before after (codes "usage\n")
HasUsage before after WriteFault = IsFront before after (codes "usage\n")
HasUsage before after _ = ⊥

-- where a fault of the outside is the status, its count rose
abbrev pub HasStatusCause : ℕ → ℕ → ℕ → ℕ → Status → Type 0
HasStatusCause folder folder_now sink sink_now ReadFault = Rose folder folder_now
HasStatusCause folder folder_now sink sink_now WriteFault = Rose sink sink_now
HasStatusCause folder folder_now sink sink_now _ = Unit {0}

abbrev pub NamesNoUsage : Status → Type 0
NamesNoUsage Usage = ⊥
NamesNoUsage _ = Unit {0}

-- the status of a tape, by how it ended
abbrev pub tape_status : Result Ended Stop → Status
tape_status (Ok ended) = ended_status ended
tape_status (Err stop) = stop_status stop

-- the status of a backtest, by how its run ended
abbrev pub run_status : RunEnded → Status
run_status run.Done = Done
run_status run.BadRow = BadRow
run_status run.ReadFault = ReadFault
run_status run.WriteFault = WriteFault
run_status run.NoMemory = NoMemory
run_status run.Limit = Limit

-- what the sink took of the line that refuses a file
abbrev pub HasRefused : List ℕ → Option (List ℕ) → Option (List ℕ) → Status → Type 0
HasRefused line before after Algorithm = IsTaken before after line
HasRefused line before after NoMemory = IsFront before after line
HasRefused line before after WriteFault = IsFront before after line
HasRefused line before after _ = ⊥

-- What a call has done whatever is told, from the folder and the sink before it to those after it: a fault of the outside that
-- is its status was counted, all hands were given back, what the folder tells stays, and no count falls.
pub record Went {F S : Type 0} (told : F → Option Files) (hands folder_faults : F → ℕ) (sink_faults : S → ℕ)
    (folder folder_now : F) (sink sink_now : S) (status : Status) : Type 0 where
  pub cause : HasStatusCause (folder_faults folder) (folder_faults folder_now) (sink_faults sink) (sink_faults sink_now) status
  pub back : hands folder_now ≡ hands folder
  pub kept : told folder_now ≡ told folder
  pub folder_grows : folder_faults folder ≤ folder_faults folder_now
  pub sink_grows : sink_faults sink ≤ sink_faults sink_now
