-- How the bars that are kept change orders, and what is said of it.
use Rattle.std.specs.Prelude.{ℕ, is_some, if◌then◌else◌, List, Option, None, option_map, option_and_then}
use Rattle.std.specs.Map.{lookup}
use Rattle.std.specs.Option.{option_map_or}
use Rattle.exchange_hours.specs.Entries.{Entries}
use Rattle.lean_fixed.specs.declared.time.Moment.{Moment}
use Rattle.lean_orders.specs.declared.desk.PriceBar.{PriceBar}
use Rattle.lean_orders.specs.declared.desk.Reply.{Reply}
use Rattle.lean_orders.specs.declared.event.Fill.{Fill}
use Rattle.lean_orders.specs.declared.order.Order.{Order}
use Rattle.lean_orders.specs.declared.order.OrderState.TheVariants.{Filled}
use Rattle.portfolio.specs.Symbols.{same_symbol}
use Rattle.trade_costs.specs.declared.costs.Costs.{Costs}
use Rattle.clock_book.specs.Books.{is_live}
use Rattle.clock_book.specs.Matches.{set_off, fill_on, in_state, filled_event}

-- the bar that is kept for a live order
abbrev pub bar_kept : List (List ℕ × PriceBar) → Order → Option PriceBar
bar_kept bars order = if is_live order.state then lookup (same_symbol order.symbol) bars else None

-- how an order is triggered, and its fill
pub record Trial : Type 0 where
  pub first : Order → Order
  pub fill : Order → Option Fill

-- by the bars that are kept
abbrev pub trial : Costs → Entries → List (List ℕ × PriceBar) → Trial
trial costs hours bars =
    record {
      first = λ order. option_map_or (set_off hours order) (bar_kept bars order) order;
      fill = λ order. option_and_then (fill_on costs hours order) (bar_kept bars order);
    }

-- an order after it was tried, and what is said of it
abbrev pub after_try : Trial → Order → Order
after_try trial order = if is_some (trial.fill order) then in_state Filled (trial.first order) else trial.first order

abbrev pub said_of : Trial → Moment → Order → Option Reply
said_of trial at order = option_map (filled_event at order) (trial.fill order)
