-- What a run of an algorithm has written when it ends.
use Rattle.std.specs.Prelude.{◌≡◌, ℕ, ◌+◌, ◌-◌, ◌≤◌, List, Option, Some, None, flat_map}
use Rattle.lean_fixed.specs.Moments.{first_moment, last_moment}
use Rattle.clock_run.specs.Lines.{Halt, malformed, too_many_securities, too_many_requests, line_bytes}
use Rattle.clock_run.specs.Known.{World}
use Rattle.clock_run.specs.States.{Setup}
use Rattle.clock_run.specs.Reports.{moments, backtest, report_bytes}
use Rattle.report_pages.specs.Printed.{IsTaken, IsFront}
use Rattle.backtest_engine.specs.declared.ended.Ended.{Ended}
use Rattle.backtest_engine.specs.declared.ended.Ended.TheVariants.{Done, BadRow, ReadFault, WriteFault, NoMemory, Limit}

-- how the definition ends
abbrev pub ended_of : Option Halt → Ended
ended_of None = Done
ended_of (Some (malformed kind bad)) = BadRow
ended_of (Some too_many_securities) = Limit
ended_of (Some too_many_requests) = Limit

module _ (setup : Setup) (world : World) where
  abbrev pub report : List ℕ
  report = report_bytes setup (backtest setup world)

  -- the lines of so many moments
  abbrev pub lines_of : ℕ → List ℕ
  lines_of count = flat_map line_bytes (moments setup world count).lines

  -- the lines of whole moments were written
  pub record AreMoments (told0 told : Option (List ℕ)) : Type 0 where
    pub count : ℕ
    pub small : count ≤ last_moment setup.plan.window + 1 - first_moment setup.plan.window
    pub wrote : IsTaken told0 told (lines_of count)

  -- all of the report, and the definition ends so; or a front of it, or the lines of whole moments
  abbrev pub IsBacktest : Option (List ℕ) → Option (List ℕ) → Ended → Type 0
  IsBacktest told0 told Done = (Done ≡ ended_of (backtest setup world).stop) × IsTaken told0 told report
  IsBacktest told0 told BadRow = (BadRow ≡ ended_of (backtest setup world).stop) × IsTaken told0 told report
  IsBacktest told0 told Limit = (Limit ≡ ended_of (backtest setup world).stop) × IsTaken told0 told report
  IsBacktest told0 told ReadFault = AreMoments told0 told
  IsBacktest told0 told WriteFault = IsFront told0 told report
  IsBacktest told0 told NoMemory = IsFront told0 told report
