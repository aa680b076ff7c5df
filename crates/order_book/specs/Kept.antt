-- What a book keeps of all that it was told.
use Rattle.std.specs.Prelude.{ℕ, List, length}
use Rattle.exchange_hours.specs.Entries.{Entries}
use Rattle.lean_orders.specs.declared.desk.PriceBar.{PriceBar}
use Rattle.lean_orders.specs.declared.event.Fill.{Fill}
use Rattle.lean_orders.specs.declared.order.Order.{Order}
use Rattle.portfolio.specs.Account.{Account}
use Rattle.trade_costs.specs.declared.costs.Costs.{Costs}

-- The costs, leverage and hours; the account; all orders and all fills; and of each symbol that was marked by a real bar since the orders were last tried the last such bar.
pub record Kept : Type 0 where
  pub costs : Costs
  pub leverage : ℕ
  pub hours : Entries
  pub account : Account
  pub orders : List Order
  pub fills : List Fill
  pub bars : List (List ℕ × PriceBar)

-- how many orders were submitted
abbrev pub order_count : Kept → ℕ
order_count kept = length kept.orders
