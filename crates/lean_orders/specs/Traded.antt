-- The ranges of trades.
use Rattle.lean_fixed.specs.Ranges.{IsFillPrice, IsQuantity, IsFee}
use Rattle.lean_orders.specs.declared.event.Fill.{Fill}

-- a trade of a quantity at a price for a fee
pub record IsFill (fill : Fill) : Type 0 where
  pub quantity : IsQuantity fill.quantity.0
  pub price : IsFillPrice fill.price.0
  pub fee : IsFee fill.fee.0
