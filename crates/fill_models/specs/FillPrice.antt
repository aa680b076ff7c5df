-- The price at which a bar fills a resting order.
use Rattle.std.specs.Prelude.{ℤ, pos, int_lt, int_le, Bool, false, ◌&&◌, ◌||◌, Option, Some, None, if◌then◌else◌, option_and_then}
use Rattle.std.specs.Int.{int_min, int_max}
use Rattle.std.specs.Option.{option_map_or}
use Rattle.lean_fixed.specs.Ranges.{IsPrice}
use Rattle.lean_fixed.specs.declared.money.Side.{Side}
use Rattle.lean_fixed.specs.declared.money.Side.TheVariants.{Buy, Sell}
use Rattle.lean_items.specs.declared.bar.Bar.{Bar}
use Rattle.lean_orders.specs.declared.order.Kind.{Kind}
use Rattle.lean_orders.specs.declared.order.Kind.TheVariants.{Market, Limit, Stop, AtOpen, StopLimit}
use Rattle.lean_orders.specs.declared.order.Order.{Order}
use Rattle.trade_costs.specs.declared.costs.Costs.{Costs}
use Rattle.trade_costs.specs.Fees.{slipped}

-- shares are bought where the quantity is positive
abbrev pub side_of : ℤ → Side
side_of quantity = if int_lt (pos 0) quantity then Buy else Sell

-- a limit order fills where the bar traded past its price, at that price or, if all of the bar is better, at its nearest
abbrev pub limit_price : Side → Bar → ℤ → Option ℤ
limit_price Buy bar limit = if int_lt bar.low.0 limit then Some (int_min bar.high.0 limit) else None
limit_price Sell bar limit = if int_lt limit bar.high.0 then Some (int_max bar.low.0 limit) else None

-- a stop order fills where the bar traded past its price, at that price or, if it is worse, at the slipped closing price
abbrev pub stop_price : Side → Bar → Costs → ℤ → Option ℤ
stop_price Buy bar costs stop =
    if int_lt stop bar.high.0 then Some (int_max stop (slipped costs bar.closing.0 Buy)) else None
stop_price Sell bar costs stop =
    if int_lt bar.low.0 stop then Some (int_min stop (slipped costs bar.closing.0 Sell)) else None

-- an order for the open fills in a session that opens no earlier than it was placed, at the slipped opening price
abbrev pub open_price : Side → Bar → Costs → ℤ → ℤ → Option ℤ
open_price side bar costs placed opens =
    if int_le placed opens then Some (slipped costs bar.opening.0 side) else None

-- an order is tried on a real bar that ends after the order's moment
abbrev pub is_tried : Order → Bar → Bool
is_tried order bar = bar.real && int_lt order.placed.0 bar.end.0

-- the bar traded past a stop
abbrev pub passes : Side → Bar → ℤ → Bool
passes Buy bar stop = int_lt stop bar.high.0
passes Sell bar stop = int_lt bar.low.0 stop

-- a bar triggers a stop-limit order that is tried on it where it traded past the order's stop
abbrev pub triggers : Order → Bar → Bool
triggers order bar =
    is_tried order bar && option_map_or (λ stop. passes (side_of order.quantity.0) bar stop.0) order.price false

-- a stop-limit order that is triggered fills where the bar closed past its limit, at that price or, if all of the bar is
-- better, at its nearest
abbrev pub stop_limit_price : Side → Bar → ℤ → Option ℤ
stop_limit_price Buy bar limit = if int_lt bar.closing.0 limit then Some (int_min bar.high.0 limit) else None
stop_limit_price Sell bar limit = if int_lt limit bar.closing.0 then Some (int_max bar.low.0 limit) else None

-- the row of the fill table for a kind and a side; a market order does not rest
abbrev pub table_price : Kind → Side → Order → Bar → ℤ → Costs → Option ℤ
table_price Market side order bar opens costs = None
table_price Limit side order bar opens costs = option_and_then (λ price. limit_price side bar price.0) order.price
table_price Stop side order bar opens costs = option_and_then (λ price. stop_price side bar costs price.0) order.price
table_price AtOpen side order bar opens costs = open_price side bar costs order.placed.0 opens
table_price StopLimit side order bar opens costs =
    if order.triggered || triggers order bar
    then option_and_then (λ limit. stop_limit_price side bar limit.0) order.limit
    else None

-- the price at which a bar fills an order, if it does
abbrev pub fill_price : Order → Bar → ℤ → Costs → Option ℤ
fill_price order bar opens costs =
    if is_tried order bar
    then table_price order.kind (side_of order.quantity.0) order bar opens costs
    else None

-- the four prices of a bar
pub record IsPriced (bar : Bar) : Type 0 where
  pub opening : IsPrice bar.opening.0
  pub high : IsPrice bar.high.0
  pub low : IsPrice bar.low.0
  pub closing : IsPrice bar.closing.0
