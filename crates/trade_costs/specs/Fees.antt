-- The fee of a trade, and the price after slippage. All are in 1/10000 dollar.
use Rattle.std.specs.Prelude.{ℤ, pos, ◌+ℤ◌, ◌-ℤ◌, ◌*ℤ◌}
use Rattle.std.specs.Int.{int_max}
use Rattle.lean_fixed.specs.Ranges.{IsWithin}
use Rattle.lean_fixed.specs.declared.money.Side.{Side}
use Rattle.lean_fixed.specs.declared.money.Side.TheVariants.{Buy, Sell}
use Rattle.trade_costs.specs.declared.costs.Costs.{Costs}

-- at most 100 dollars a share, 1,000,000 dollars at least, and 100 dollars of slippage
pub record IsCosts (costs : Costs) : Type 0 where
  pub per_share : IsWithin (pos 0) (pos 1000000) costs.per_share.0
  pub least : IsWithin (pos 0) (pos 10000000000) costs.least.0
  pub slip : IsWithin (pos 0) (pos 1000000) costs.slip

-- the fee of so many shares: so much a share, and no less than the least
abbrev pub fee : Costs → ℤ → ℤ
fee costs shares = int_max costs.least.0 (shares *ℤ costs.per_share.0)

-- a buyer pays more by the slip, and a seller gets less, but never less than 1
abbrev pub slipped : Costs → ℤ → Side → ℤ
slipped costs price Buy = price +ℤ costs.slip
slipped costs price Sell = int_max (pos 1) (price -ℤ costs.slip)
