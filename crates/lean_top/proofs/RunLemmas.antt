-- What a run of an algorithm has written is the report of its backtest.
use Rattle.std.proofs.Common.{◌≡◌, ℕ, ◌+◌, ◌-◌, ◌≤◌, List, refl, ap, ◌∙◌}
use Rattle.std.specs.Prelude.{Option, Some, None}
use Rattle.lean_fixed.specs.Moments.{first_moment, last_moment}
use Rattle.lean_io.specs.Told.{Rose}
use Rattle.clock_steps.specs.Runs.{IsFrontOf}
use Rattle.clock_run.specs.Lines.{Halt, malformed, too_many_securities, too_many_requests}
use Rattle.clock_run.specs.Known.{World}
use Rattle.clock_run.specs.States.{Setup}
use Rattle.clock_run.specs.Reports.{moments, backtest}
use Rattle.backtest_engine.specs.declared.ended.Ended.{Ended}
use Rattle.backtest_engine.specs.declared.ended.Ended.TheVariants as run
use Rattle.backtest_engine.specs.Backtests.{ended_of, IsBacktest}
use Rattle.lean_top.specs.Outcome.{HasReported, HasStatusCause, run_status}
use Rattle.lean_top.specs.Report.{halt_status, backtest_report_of, AreMomentsOf}
use Rattle.lean_top.proofs.BacktestLemmas.{read_reported}

halted : (halt : Option Halt) → run_status (ended_of halt) ≡ halt_status halt
halted None = refl
halted (Some (malformed kind bad)) = refl
halted (Some too_many_securities) = refl
halted (Some too_many_requests) = refl

-- a run that ended as the definition does has the status of its report
so_ended : (ended : Ended) (halt : Option Halt) → ended ≡ ended_of halt → run_status ended ≡ halt_status halt
so_ended ended halt is = ap run_status is ∙ halted halt

module _ (setup : Setup) (world : World)
    (fronts : (t : ℕ) → t ≤ last_moment setup.plan.window
    → IsFrontOf (moments setup world (t + 1 - first_moment setup.plan.window)).lines (backtest setup world).lines) where
  pub run_reported : (ended : Ended) (before after : Option (List ℕ)) → IsBacktest setup world before after ended
      → HasReported (backtest_report_of setup (backtest setup world)) (AreMomentsOf setup world) before after (run_status ended)
  run_reported run.Done before after (is, taken) = (so_ended run.Done (backtest setup world).stop is, taken)
  run_reported run.BadRow before after (is, taken) = (so_ended run.BadRow (backtest setup world).stop is, taken)
  run_reported run.Limit before after (is, taken) = (so_ended run.Limit (backtest setup world).stop is, taken)
  run_reported run.ReadFault before after told = read_reported setup world fronts told.count before after told.small told.wrote
  run_reported run.WriteFault before after told = told
  run_reported run.NoMemory before after told = told

-- where a fault of the outside is the status of a run, it was counted
pub run_caused : (ended : Ended) (folder folder_now sink sink_now : ℕ) → (ended ≡ run.ReadFault → Rose folder folder_now)
    → (ended ≡ run.WriteFault → Rose sink sink_now) → HasStatusCause folder folder_now sink sink_now (run_status ended)
run_caused run.Done folder folder_now sink sink_now read write = tt
run_caused run.BadRow folder folder_now sink sink_now read write = tt
run_caused run.Limit folder folder_now sink sink_now read write = tt
run_caused run.NoMemory folder folder_now sink sink_now read write = tt
run_caused run.ReadFault folder folder_now sink sink_now read write = read refl
run_caused run.WriteFault folder folder_now sink sink_now read write = write refl
