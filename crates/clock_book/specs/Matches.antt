-- A match: which live orders are triggered and filled by the bars since the last one.
use Rattle.std.specs.Prelude.{is_some, Bool, true, false, ◌&&◌, if◌then◌else◌, List, ◌++◌, length, map, Option, Some, None, option_map, option_and_then}
use Rattle.std.specs.List.{filter_map}
use Rattle.std.specs.Option.{option_map_or}
use Rattle.lean_fixed.specs.declared.time.Moment.{Moment}
use Rattle.exchange_hours.specs.Entries.{Entries}
use Rattle.lean_orders.specs.declared.order.Kind.{Kind}
use Rattle.lean_orders.specs.declared.order.Kind.TheVariants.{Market, Limit, Stop, AtOpen, StopLimit}
use Rattle.lean_orders.specs.declared.order.Order.{Order}
use Rattle.lean_orders.specs.declared.order.OrderState.{OrderState}
use Rattle.lean_orders.specs.declared.order.OrderState.TheVariants.{Filled}
use Rattle.lean_orders.specs.declared.event.Fill.{Fill}
use Rattle.lean_orders.specs.declared.event.What.TheVariants as what
use Rattle.lean_orders.specs.declared.desk.PriceBar.{PriceBar}
use Rattle.lean_orders.specs.declared.desk.Reply.{Reply}
use Rattle.lean_orders.specs.declared.desk.Reply.TheVariants.{Event}
use Rattle.trade_costs.specs.declared.costs.Costs.{Costs}
use Rattle.fill_models.specs.FillPrice.{triggers, fill_price}
use Rattle.clock_book.specs.Books.{Book, is_live, bar_to_try, table_bar, opening_of}
use Rattle.clock_book.specs.Submits.{fill_at}

-- the bar on which a live order is tried
abbrev pub bar_of : Book → Order → Option PriceBar
bar_of book order = if is_live order.state then bar_to_try book order.symbol else None

abbrev pub is_stop_limit : Kind → Bool
is_stop_limit Market = false
is_stop_limit Limit = false
is_stop_limit Stop = false
is_stop_limit AtOpen = false
is_stop_limit StopLimit = true

-- a bar triggers a stop-limit order, if the bar's day has a session
abbrev pub is_set_off : Entries → Order → PriceBar → Bool
is_set_off hours order bar =
    is_stop_limit order.kind && (is_some (opening_of hours bar.start.0) && triggers order (table_bar bar))

-- an order that the bar triggers is triggered from then on, whether it then fills or not
abbrev pub set_off : Entries → Order → PriceBar → Order
set_off hours order bar = if is_set_off hours order bar then record order { triggered = true } else order

-- the fill of an order by a bar, if the bar's day has a session and the fill table has a price for the order, which may just
-- have been triggered
abbrev pub fill_on : Costs → Entries → Order → PriceBar → Option Fill
fill_on costs hours order bar =
    option_map (fill_at costs order.symbol order.quantity.0)
    (option_and_then (λ opens. fill_price (set_off hours order bar) (table_bar bar) opens costs) (opening_of hours bar.start.0))

-- in a match an order is triggered first, and then filled
abbrev pub after_trigger : Book → Order → Order
after_trigger book order = option_map_or (set_off book.hours order) (bar_of book order) order

abbrev pub matched : Book → Order → Option Fill
matched book order = option_and_then (fill_on book.costs book.hours order) (bar_of book order)

-- an order in another state
abbrev pub in_state : OrderState → Order → Order
in_state state order = record order { state = state }

-- an order after a match
abbrev pub after_match : Book → Order → Order
after_match book order =
    if is_some (matched book order) then in_state Filled (after_trigger book order) else after_trigger book order

-- what is said of a fill
abbrev pub filled_event : Moment → Order → Fill → Reply
filled_event at order fill = Event (record { at = at; id = order.id; symbol = Some order.symbol; what = what.Filled fill })

abbrev pub match_event : Book → Moment → Order → Option Reply
match_event book at order = option_map (filled_event at order) (matched book order)

-- the events of a match, by id, and the book after it
abbrev pub match_events : Book → Moment → List Reply
match_events book at = filter_map (match_event book at) book.orders

abbrev pub book_after_match : Book → Book
book_after_match book =
    record book {
      orders = map (after_match book) book.orders;
      fills = book.fills ++ filter_map (matched book) book.orders;
      tried = length book.marks;
    }
