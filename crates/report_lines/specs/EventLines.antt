-- The line of an event, without the LF that ends it.
use Rattle.std.specs.Prelude.{◌≡◌, ℕ, ◌≤◌, ℤ, unsigned_abs, List, [], ◌∷◌, ◌++◌, codes, decimal, Option, Some, None}
use Rattle.std.specs.Fmt.{sign_text}
use Rattle.std.specs.Int.{is_negative}
use Rattle.lean_fixed.specs.Printed.{money_text, moment_text}
use Rattle.lean_fixed.specs.Ranges.{IsPrintedMoment, IsQuantity, IsFillPrice}
use Rattle.lean_fixed.specs.declared.money.Price.{Price}
use Rattle.lean_orders.specs.declared.order.Kind.{Kind}
use Rattle.lean_orders.specs.declared.order.Kind.TheVariants.{Market, Limit, Stop, AtOpen, StopLimit}
use Rattle.lean_orders.specs.declared.event.Cause.{Cause}
use Rattle.lean_orders.specs.declared.event.Cause.TheVariants.{Quantity, NoPrice, PriceForm, BuyingPower, Unknown, Closed}
use Rattle.lean_orders.specs.declared.event.What.{What}
use Rattle.lean_orders.specs.declared.event.What.TheVariants.{Submitted, Updated, Filled, Canceled, Invalid}
use Rattle.lean_orders.specs.declared.event.OrderEvent.{OrderEvent}
use Rattle.lean_orders.specs.Traded.{IsFill}
use Rattle.report_lines.specs.Words.{spaced}

abbrev pub kind_text : Kind → List ℕ
kind_text Market = codes "market"
kind_text Limit = codes "limit"
kind_text Stop = codes "stop"
kind_text AtOpen = codes "open"
kind_text StopLimit = codes "stop-limit"

abbrev pub cause_text : Cause → List ℕ
cause_text Quantity = codes "quantity"
cause_text NoPrice = codes "no-price"
cause_text PriceForm = codes "price"
cause_text BuyingPower = codes "buying-power"
cause_text Unknown = codes "unknown"
cause_text Closed = codes "closed"

-- a signed number
abbrev pub quantity_text : ℤ → List ℕ
quantity_text quantity = sign_text (is_negative quantity) ++ decimal (unsigned_abs quantity)

-- a price, or '-' where there is none
abbrev pub price_or_dash : Option Price → List ℕ
price_or_dash None = 45 ∷ []
price_or_dash (Some price) = money_text price.0

-- a price or '-', and behind it the limit where there is one
abbrev pub prices_text : Option Price → Option Price → List ℕ
prices_text price None = price_or_dash price
prices_text price (Some limit) = spaced (price_or_dash price) (money_text limit.0)

-- what happened to the order
abbrev pub what_text : What → List ℕ
what_text (Submitted kind quantity price limit) =
    spaced (codes "submitted") (spaced (kind_text kind) (spaced (quantity_text quantity.0) (prices_text price limit)))
what_text (Updated price) = spaced (codes "updated") (money_text price.0)
what_text (Filled fill) =
    spaced (codes "filled")
    (spaced (quantity_text fill.quantity.0) (spaced (money_text fill.price.0) (spaced (codes "fee") (money_text fill.fee.0))))
what_text Canceled = codes "canceled"
what_text (Invalid cause) = spaced (codes "invalid") (cause_text cause)

abbrev pub symbol_text : Option (List ℕ) → List ℕ
symbol_text None = []
symbol_text (Some symbol) = symbol

-- the moment, the word order, the id, the symbol, and what happened
abbrev pub event_line : OrderEvent → List ℕ
event_line event =
    spaced (moment_text (unsigned_abs event.at.0))
    (spaced (codes "order") (spaced (decimal event.id) (spaced (symbol_text event.symbol) (what_text event.what))))

-- a limit or stop order has a price, a stop-limit order a price and a limit, and the others have none
abbrev pub HasPricesOf : Kind → Option Price → Option Price → Type 0
HasPricesOf Limit (Some price) None = IsFillPrice price.0
HasPricesOf Stop (Some price) None = IsFillPrice price.0
HasPricesOf StopLimit (Some price) (Some limit) = IsFillPrice price.0 × IsFillPrice limit.0
HasPricesOf Market None None = Unit {0}
HasPricesOf AtOpen None None = Unit {0}
HasPricesOf _ _ _ = ⊥

-- what may happen to an order of a symbol
abbrev pub IsWhat : List ℕ → What → Type 0
IsWhat symbol (Submitted kind quantity price limit) = IsQuantity quantity.0 × HasPricesOf kind price limit
IsWhat symbol (Updated price) = IsFillPrice price.0
IsWhat symbol (Filled fill) = IsFill fill × (fill.symbol ≡ symbol)
IsWhat symbol Canceled = Unit {0}
IsWhat symbol (Invalid cause) = Unit {0}

abbrev pub IsWhatOf : Option (List ℕ) → What → Type 0
IsWhatOf None what = ⊥
IsWhatOf (Some symbol) what = IsWhat symbol what

-- an event that has a line
pub record IsEvent (event : OrderEvent) : Type 0 where
  pub at : IsPrintedMoment event.at.0
  pub id : (1 ≤ event.id) × (event.id ≤ 1000000)
  pub what : IsWhatOf event.symbol event.what
