-- The ranges in which the numbers of a backtest lie. Prices and money are in 1/10000 dollar.
-- Where a range is tested, too, its test has the range's name in small letters, and is true exactly in the range.
use Rattle.std.specs.Prelude.{ℕ, ◌+◌, ◌-◌, ◌≤◌, ◌≢◌, ℤ, ◌≤ℤ◌, ◌<ℤ◌, int_le, pos, neg_ℤ, Bool, ◌&&◌}
use Rattle.lean_fixed.specs.declared.time.Window.{Window}
use Rattle.lean_fixed.specs.Calendar.{last_day}
use Rattle.lean_fixed.specs.Moments.{midnight}

-- from one number to another, both included
abbrev pub IsWithin : ℤ → ℤ → ℤ → Type 0
IsWithin low high n = (low ≤ℤ n) × (n ≤ℤ high)

abbrev pub is_within : ℤ → ℤ → ℤ → Bool
is_within low high n = int_le low n && int_le n high

-- within a number either way
abbrev pub IsAtMost : ℕ → ℤ → Type 0
IsAtMost most n = IsWithin (neg_ℤ (pos most)) (pos most) n

-- the price of a bar, an order or a mark
abbrev pub most_price : ℕ
most_price = 10000000000

abbrev pub IsPrice : ℤ → Type 0
IsPrice n = IsWithin (pos 1) (pos most_price) n

abbrev pub is_price : ℤ → Bool
is_price n = is_within (pos 1) (pos most_price) n

-- the price of a fill, which slippage may have raised by up to 100 dollars
abbrev pub most_fill_price : ℕ
most_fill_price = 10001000000

abbrev pub IsFillPrice : ℤ → Type 0
IsFillPrice n = IsWithin (pos 1) (pos most_fill_price) n

-- the volume of a bar that a file has, and of one that a consolidator gave
abbrev pub most_volume : ℕ
most_volume = 1000000000000000

abbrev pub IsVolume : ℤ → Type 0
IsVolume n = IsWithin (pos 0) (pos most_volume) n

abbrev pub is_volume : ℤ → Bool
is_volume n = is_within (pos 0) (pos most_volume) n

abbrev pub most_sum_of_volumes : ℕ
most_sum_of_volumes = 1440000000000000000

abbrev pub IsSumOfVolumes : ℤ → Type 0
IsSumOfVolumes n = IsWithin (pos 0) (pos most_sum_of_volumes) n

-- the shares of an order or a fill, positive where they are bought
abbrev pub most_quantity : ℕ
most_quantity = 1000000000

abbrev pub IsQuantity : ℤ → Type 0
IsQuantity n = (n ≢ pos 0) × IsAtMost most_quantity n

-- the shares that are held, negative where they are owed
abbrev pub most_position : ℕ
most_position = 1000000000000000

abbrev pub IsPosition : ℤ → Type 0
IsPosition n = IsAtMost most_position n

-- the fee of a fill
abbrev pub most_fee : ℕ
most_fee = 1000000000000000

abbrev pub IsFee : ℤ → Type 0
IsFee n = IsWithin (pos 0) (pos most_fee) n

-- the cash with which a backtest starts, and all other money
abbrev pub most_starting_cash : ℕ
most_starting_cash = 100000000000000000000

abbrev pub IsStartingCash : ℤ → Type 0
IsStartingCash n = IsWithin (pos 1) (pos most_starting_cash) n

abbrev pub most_money : ℕ
most_money = 1000000000000000000000000000000

abbrev pub IsMoney : ℤ → Type 0
IsMoney n = IsAtMost most_money n

-- how many times its own money a backtest may hold in shares
abbrev pub most_leverage : ℕ
most_leverage = 100

abbrev pub IsLeverage : ℕ → Type 0
IsLeverage n = (1 ≤ n) × (n ≤ most_leverage)

-- a day from 1970-01-01 to 2199-12-31
abbrev pub IsDay : ℤ → Type 0
IsDay n = IsWithin (pos 0) (pos last_day) n

-- a first or last day of a window, from 1970-01-02 to 2199-12-30
abbrev pub IsWindowDay : ℤ → Type 0
IsWindowDay n = IsWithin (pos 1) (pos (last_day - 1)) n

pub record IsWindow (window : Window) : Type 0 where
  pub first : IsWindowDay window.first.0
  pub last : IsWindowDay window.last.0

-- a moment, in minutes since 1970-01-01 00:00
abbrev pub IsMoment : ℤ → Type 0
IsMoment n = IsWithin (neg_ℤ (pos 10000)) (pos 121000000) n

abbrev pub is_moment : ℤ → Bool
is_moment n = is_within (neg_ℤ (pos 10000)) (pos 121000000) n

-- a moment that lies on one of the days
abbrev pub IsDatedMoment : ℤ → Type 0
IsDatedMoment n = (pos 0 ≤ℤ n) × (n <ℤ pos (midnight (last_day + 1)))

-- a moment that may be printed, up to 24:00 of 2200-01-01
abbrev pub last_printed_moment : ℕ
last_printed_moment = 120970080

abbrev pub IsPrintedMoment : ℤ → Type 0
IsPrintedMoment n = IsWithin (pos 0) (pos last_printed_moment) n
