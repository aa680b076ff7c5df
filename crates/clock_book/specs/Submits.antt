-- A submit: the first cause for which it is refused, or the order that it makes.
use Rattle.std.specs.Prelude.{ℕ, ◌+◌, nat_le, ◌==◌, ℤ, pos, unsigned_abs, Bool, true, false, not, ◌&&◌, ◌||◌, if◌then◌else◌, List, length, Option, Some, None}
use Rattle.lean_fixed.specs.Ranges.{most_quantity, is_price}
use Rattle.lean_fixed.specs.declared.money.Price.{Price}
use Rattle.lean_fixed.specs.declared.time.Moment.{Moment}
use Rattle.lean_orders.specs.declared.order.Kind.{Kind}
use Rattle.lean_orders.specs.declared.order.Kind.TheVariants.{Market, Limit, Stop, AtOpen, StopLimit}
use Rattle.lean_orders.specs.declared.order.Request.{Request}
use Rattle.lean_orders.specs.declared.order.Order.{Order}
use Rattle.lean_orders.specs.declared.order.OrderState.{OrderState}
use Rattle.lean_orders.specs.declared.event.Cause.{Cause}
use Rattle.lean_orders.specs.declared.event.Cause.TheVariants.{Quantity, NoPrice, PriceForm, BuyingPower}
use Rattle.lean_orders.specs.declared.event.Fill.{Fill}
use Rattle.trade_costs.specs.declared.costs.Costs.{Costs}
use Rattle.trade_costs.specs.Fees.{fee, slipped}
use Rattle.fill_models.specs.FillPrice.{side_of}
use Rattle.buying_power.specs.declared.power.Power.{Power}
use Rattle.buying_power.specs.Buying.{allows}
use Rattle.clock_book.specs.Books.{Book, price_of, position_of, equity_of, others_of}

-- a quantity that may be asked for
abbrev pub is_quantity : ℤ → Bool
is_quantity quantity = not (unsigned_abs quantity == 0) && nat_le (unsigned_abs quantity) most_quantity

-- whether orders of a kind rest at a price of their own
abbrev pub has_price : Kind → Bool
has_price Market = false
has_price Limit = true
has_price Stop = true
has_price AtOpen = false
has_price StopLimit = true

-- whether they have a limit beside it
abbrev pub has_limit : Kind → Bool
has_limit Market = false
has_limit Limit = false
has_limit Stop = false
has_limit AtOpen = false
has_limit StopLimit = true

-- a price that is asked for is there, and in order
abbrev pub is_priced : Option Price → Bool
is_priced None = false
is_priced (Some price) = is_price price.0

-- a price that the request's kind wants is missing or out of range
abbrev pub is_unpriced : Request → Bool
is_unpriced request =
    (has_price request.kind && not (is_priced request.price)) || (has_limit request.kind && not (is_priced request.limit))

abbrev pub fee_of : Costs → ℤ → ℤ
fee_of costs quantity = fee costs (pos (unsigned_abs quantity))

-- the question of buying power about a request at the symbol's price
abbrev pub power_of : Book → Request → ℤ → Power
power_of book request price =
    record {
      equity = record { 0 = equity_of book };
      gross_others = record { 0 = others_of book request.symbol };
      held = record { 0 = position_of book request.symbol };
      price = record { 0 = price };
      quantity = request.quantity;
      leverage = book.leverage;
      fee = record { 0 = fee_of book.costs request.quantity.0 };
    }

-- the first cause for which a request of a symbol of this price is refused
abbrev pub priced_cause : Book → Request → ℤ → Option Cause
priced_cause book request price =
    if is_unpriced request then Some PriceForm
    else if allows (power_of book request price) then None
    else Some BuyingPower

abbrev pub cause_at_price : Book → Request → Option ℤ → Option Cause
cause_at_price book request None = Some NoPrice
cause_at_price book request (Some price) = priced_cause book request price

-- the first cause for which a request is refused
abbrev pub submit_cause : Book → Request → Option Cause
submit_cause book request =
    if is_quantity request.quantity.0 then cause_at_price book request (price_of book request.symbol) else Some Quantity

-- ids count the submits from 1
abbrev pub next_id : Book → ℕ
next_id book = length book.orders + 1

-- the price and the limit that an order of a kind keeps
abbrev pub kept_price : Kind → Option Price → Option Price
kept_price kind price = if has_price kind then price else None

abbrev pub kept_limit : Kind → Option Price → Option Price
kept_limit kind limit = if has_limit kind then limit else None

-- the order that a request makes
abbrev pub order_for : Book → Moment → Request → Kind → OrderState → Order
order_for book at request kind state =
    record {
      id = next_id book;
      symbol = request.symbol;
      kind = kind;
      quantity = request.quantity;
      price = kept_price kind request.price;
      limit = kept_limit kind request.limit;
      placed = at;
      state = state;
      triggered = false;
    }

-- the fill of a quantity of a symbol at a price
abbrev pub fill_at : Costs → List ℕ → ℤ → ℤ → Fill
fill_at costs symbol quantity price =
    record {
      symbol = symbol;
      quantity = record { 0 = quantity };
      price = record { 0 = price };
      fee = record { 0 = fee_of costs quantity };
    }

-- a market order fills at once at the symbol's price, with slippage
abbrev pub market_fill : Book → Request → ℤ → Fill
market_fill book request price =
    fill_at book.costs request.symbol request.quantity.0 (slipped book.costs price (side_of request.quantity.0))
