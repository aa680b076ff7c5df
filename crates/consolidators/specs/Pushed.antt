-- What is owed of a bar that is pushed, and what the bar of a bucket keeps to.
use Rattle.std.specs.Prelude.{◌≡◌, ℕ, ◌<◌, ◌≤◌, ℤ, pos, ◌+ℤ◌, ◌-ℤ◌, ◌*ℤ◌, ◌≤ℤ◌, ◌<ℤ◌, List, All}
use Rattle.std.specs.List.{AllPairs}
use Rattle.lean_fixed.specs.Ranges.{IsMoment, IsPrice, IsVolume, IsSumOfVolumes, most_volume}
use Rattle.lean_items.specs.declared.bar.Bar.{Bar}
use Rattle.consolidators.specs.Buckets.{bucket_start, bucket_end, bucket_of}

-- from a minute to a day
abbrev pub IsPeriod : ℕ → Type 0
IsPeriod period = (0 < period) × (period ≤ 1440)

pub record ArePrices (bar : Bar) : Type 0 where
  pub opening : IsPrice bar.opening.0
  pub high : IsPrice bar.high.0
  pub low : IsPrice bar.low.0
  pub closing : IsPrice bar.closing.0

-- the numbers of a bar are in their ranges
pub record AreNumbers (bar : Bar) : Type 0 where
  pub start : IsMoment bar.start.0
  pub end : IsMoment bar.end.0
  pub prices : ArePrices bar
  pub volume : IsVolume bar.volume.0

-- a bar that ends after its start and within its bucket
pub record IsPushed (period : ℕ) (bar : Bar) : Type 0 where
  pub numbers : AreNumbers bar
  pub after : bar.start.0 <ℤ bar.end.0
  pub within : bar.end.0 ≤ℤ bucket_end period (bucket_of period bar)

-- bars that may be pushed one after the other: none starts before one before it ended
pub record ArePushed (period : ℕ) (bars : List Bar) : Type 0 where
  pub each : All (IsPushed period) bars
  pub order : AllPairs (λ earlier bar. earlier.end.0 ≤ℤ bar.start.0) bars

-- the numbers of a bar that is given
pub record IsGiven (period : ℕ) (bar : Bar) : Type 0 where
  pub start : bar.start.0 ≡ bucket_start period (bucket_of period bar)
  pub end : bar.end.0 ≡ (bar.start.0 +ℤ pos period)
  pub prices : ArePrices bar
  pub volume : IsSumOfVolumes bar.volume.0

-- the bar of a bucket of which bars were pushed up to a moment: each minute has added at most a volume
pub record IsSoFar (period : ℕ) (ended : ℤ) (bar : Bar) : Type 0 where
  pub start : bar.start.0 ≡ bucket_start period (bucket_of period bar)
  pub end : bar.end.0 ≡ (bar.start.0 +ℤ pos period)
  pub begun : bar.start.0 <ℤ ended
  pub within : ended ≤ℤ bar.end.0
  pub prices : ArePrices bar
  pub positive : pos 0 ≤ℤ bar.volume.0
  pub volume : bar.volume.0 ≤ℤ ((ended -ℤ bar.start.0) *ℤ pos most_volume)
