-- How a last text was written.
use Rattle.std.specs.Prelude.{◌≡◌, ◌⊎◌, ℕ, List, Option}
use Rattle.report_pages.specs.Printed.{IsTaken, IsFront}
use Rattle.backtest_engine.specs.declared.ended.Ended.{Ended}
use Rattle.backtest_engine.specs.declared.ended.Ended.TheVariants.{WriteFault, NoMemory}

-- all of it, or a front of it
abbrev pub IsWritten : Option (List ℕ) → Option (List ℕ) → List ℕ → Ended → Ended → Type 0
IsWritten told0 told text want ended =
    ((ended ≡ want) × IsTaken told0 told text)
    ⊎ (((ended ≡ WriteFault) ⊎ (ended ≡ NoMemory)) × IsFront told0 told text)
