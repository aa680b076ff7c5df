-- What is kept of the equities of the close lines.
use Rattle.std.specs.Prelude.{◌≡◌, ℤ, List, [], ◌∷◌}
use Rattle.std.specs.Int.{int_max}
use Rattle.clock_run.specs.Summary.{drawdown}
use Rattle.report_stats.specs.declared.stats.Stats.{Stats}

-- the greatest of a starting cash and some equities
abbrev pub peak_of : ℤ → List ℤ → ℤ
peak_of start [] = start
peak_of start (equity ∷ later) = peak_of (int_max start equity) later

-- the statistics stand for a starting cash and the list of the equities that they were told
pub record StandsFor (stats : Stats) (start : ℤ) (equities : List ℤ) : Type 0 where
  pub begun : stats.start.0 ≡ start
  pub peak : stats.peak.0 ≡ peak_of start equities
  pub drawdown : stats.drawdown.0 ≡ drawdown start equities
