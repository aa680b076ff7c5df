-- How large the numbers of an account become: within 10^26 either way, which no million fills reach.
use Rattle.std.specs.Prelude.{◌≤◌, Option, Some, None}
use Rattle.lean_fixed.specs.Ranges.{IsAtMost, IsPrice}
use Rattle.lean_fixed.specs.declared.money.Price.{Price}
use Rattle.portfolio.specs.declared.totals.Totals.{Totals}
use Rattle.portfolio.specs.declared.totals.Holding.{Holding}
use Rattle.portfolio.specs.LotRanges.{most_cost, IsBounded}
use Rattle.portfolio.specs.Stands.{most_fills}

pub record IsSmall (totals : Totals) : Type 0 where
  pub cash : IsAtMost most_cost totals.cash
  pub fees : IsAtMost most_cost totals.fees
  pub realised : IsAtMost most_cost totals.realised
  pub value : IsAtMost most_cost totals.value
  pub gross : IsAtMost most_cost totals.gross
  pub fills : totals.fills ≤ most_fills

-- a price, or none
abbrev pub IsPriced : Option Price → Type 0
IsPriced None = Unit {0}
IsPriced (Some price) = IsPrice price.0

pub record IsSmallHolding (holding : Holding) : Type 0 where
  pub lot : IsBounded holding.lot
  pub price : IsPriced holding.price
