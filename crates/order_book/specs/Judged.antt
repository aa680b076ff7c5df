-- What is found of a request before it becomes an order.
use Rattle.std.specs.Prelude.{◌≡◌, ℕ, true, false, Some, None, Result, Ok, Err, IfSome}
use Rattle.lean_fixed.specs.Ranges.{IsPrice, IsQuantity}
use Rattle.lean_fixed.specs.declared.money.Price.{Price}
use Rattle.lean_fixed.specs.declared.time.Moment.{Moment}
use Rattle.lean_orders.specs.declared.event.Cause.{Cause}
use Rattle.lean_orders.specs.declared.order.Kind.{Kind}
use Rattle.lean_orders.specs.declared.order.Order.{Order}
use Rattle.lean_orders.specs.declared.order.OrderState.{OrderState}
use Rattle.lean_orders.specs.declared.order.Request.{Request}
use Rattle.clock_book.specs.Books.{Book, price_of}
use Rattle.clock_book.specs.Submits.{has_price, has_limit, kept_price, kept_limit, submit_cause}

-- the first cause against the request, or the price of its symbol where there is none
abbrev pub IsJudged : Book → Request → Result Price Cause → Type 0
IsJudged book request (Ok price) =
    (submit_cause book request ≡ None) × (price_of book request.symbol ≡ Some price.0)
IsJudged book request (Err cause) = submit_cause book request ≡ Some cause

-- the numbers of a request that has no cause against it
pub record IsSound (request : Request) : Type 0 where
  pub quantity : IsQuantity request.quantity.0
  pub price : has_price request.kind ≡ true → IfSome request.price (λ price. IsPrice price.0)
  pub limit : has_limit request.kind ≡ true → IfSome request.limit (λ limit. IsPrice limit.0)

-- those of one that rests as an order of a kind
pub record IsResting (kind : Kind) (request : Request) : Type 0 where
  pub quantity : IsQuantity request.quantity.0
  pub price : IfSome (kept_price kind request.price) (λ price. IsPrice price.0)
  pub limit : IfSome (kept_limit kind request.limit) (λ limit. IsPrice limit.0)

-- the order that a request makes
abbrev pub made_order : ℕ → Moment → Request → Kind → OrderState → Order
made_order id at request kind state =
    record {
      id = id;
      symbol = request.symbol;
      kind = kind;
      quantity = request.quantity;
      price = kept_price kind request.price;
      limit = kept_limit kind request.limit;
      placed = at;
      state = state;
      triggered = false;
    }
