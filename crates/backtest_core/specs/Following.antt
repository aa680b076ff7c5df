-- What a security keeps of its bars: the bars of a longer period that are being made, and the closes that its windows hear.
use Rattle.std.specs.Prelude.{ℕ, ℤ, ◌≤ℤ◌, List, [], Option, Some, None, option_map}
use Rattle.std.specs.Option.{ForSome}
use Rattle.lean_fixed.specs.Ranges.{IsMoment, IsPrice}
use Rattle.lean_items.specs.declared.bar.Bar.{Bar}
use Rattle.bar_windows.specs.Recent.{Recent, StandsFor as WindowsStandFor}
use Rattle.consolidators.specs.declared.consolidator.Consolidator.{Consolidator}
use Rattle.consolidators.specs.Pushed.{IsPushed, IsPeriod}
use Rattle.consolidators.specs.Stands.{StandsFor, EndsBy, period_of}
use Rattle.clock_run.specs.Histories.{closes}

abbrev pub period_in : Option Consolidator → Option ℕ
period_in longer = option_map period_of longer

-- a bar may be taken next
abbrev pub CanTake : Option Consolidator → Bar → Type 0
CanTake None bar = IsPrice bar.closing.0
CanTake (Some c) bar = IsPushed (period_of c) bar × EndsBy bar.start.0 c

-- bars of a longer period stand for all bars that were taken
abbrev pub LongerStands : Option Consolidator → List Bar → Type 0
LongerStands None bars = Unit {0}
LongerStands (Some c) bars = StandsFor c bars

-- what is kept stands for these bars
pub record FollowsBars (longer : Option Consolidator) (windows : Recent) (bars : List Bar) : Type 0 where
  pub heard : LongerStands longer bars
  pub closes : WindowsStandFor windows (closes (record { symbol = []; period = period_in longer; bars = bars }))

-- all bars that were taken ended by a moment and by each later one
abbrev pub EndsFrom : ℤ → Option Consolidator → Type 0
EndsFrom until longer = ForSome longer (λ c. (m : ℤ) → IsMoment m → until ≤ℤ m → EndsBy m c)

abbrev pub IsPeriodIn : Option ℕ → Type 0
IsPeriodIn period = ForSome period IsPeriod
