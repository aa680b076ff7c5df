-- The event whose line a text is.
use Rattle.std.specs.Prelude.{ℕ, ◌==◌, nat_le, nat_lt, pos, neg_ℤ, ◌&&◌, if◌then◌else◌, List, [], ◌∷◌, length, take, drop, slice_index, codes, bytes_eq, Option, Some, None, option_map, option_and_then}
use Rattle.lean_fixed.specs.Ranges.{most_quantity, most_fill_price, most_fee}
use Rattle.lean_fixed.specs.ReadBack.{number_of_text, amount_of_text, moment_of_text}
use Rattle.lean_fixed.specs.Symbol.{is_symbol}
use Rattle.lean_fixed.specs.declared.money.Price.{Price}
use Rattle.lean_fixed.specs.declared.money.Shares.{Shares}
use Rattle.lean_fixed.specs.declared.money.Money.{Money}
use Rattle.lean_orders.specs.declared.order.Kind.{Kind}
use Rattle.lean_orders.specs.declared.order.Kind.TheVariants.{Market, Limit, Stop, AtOpen, StopLimit}
use Rattle.lean_orders.specs.declared.event.Cause.{Cause}
use Rattle.lean_orders.specs.declared.event.Cause.TheVariants.{Quantity, NoPrice, PriceForm, BuyingPower, Unknown, Closed}
use Rattle.lean_orders.specs.declared.event.What.{What}
use Rattle.lean_orders.specs.declared.event.What.TheVariants.{Submitted, Updated, Filled, Canceled, Invalid}
use Rattle.lean_orders.specs.declared.event.OrderEvent.{OrderEvent}
use Rattle.report_lines.specs.Words.{cut}

-- a number of a range
abbrev pub in_range : ℕ → ℕ → ℕ → Option ℕ
in_range least most n = if nat_le least n && nat_le n most then Some n else None

abbrev pub id_of_text : List ℕ → Option ℕ
id_of_text text = option_and_then (in_range 1 1000000) (number_of_text text)

abbrev pub shares_of_text : List ℕ → Option ℕ
shares_of_text text = option_and_then (in_range 1 most_quantity) (number_of_text text)

-- a quantity: '-' before the number where it is negative
abbrev pub quantity_of_text : List ℕ → Option Shares
quantity_of_text [] = None
quantity_of_text (b ∷ text) =
    if b == 45 then option_map (λ n. record { 0 = neg_ℤ (pos n) }) (shares_of_text text)
    else option_map (λ n. record { 0 = pos n }) (shares_of_text (b ∷ text))

abbrev pub price_of_text : List ℕ → Option Price
price_of_text text =
    option_map (λ n. record { 0 = pos n }) (option_and_then (in_range 1 most_fill_price) (amount_of_text text))

abbrev pub fee_of_text : List ℕ → Option Money
fee_of_text text =
    option_map (λ n. record { 0 = pos n }) (option_and_then (in_range 0 most_fee) (amount_of_text text))

abbrev pub kind_of_text : List ℕ → Option Kind
kind_of_text text =
    if bytes_eq text (codes "market") then Some Market
    else if bytes_eq text (codes "limit") then Some Limit
    else if bytes_eq text (codes "stop") then Some Stop
    else if bytes_eq text (codes "open") then Some AtOpen
    else if bytes_eq text (codes "stop-limit") then Some StopLimit
    else None

abbrev pub cause_of_text : List ℕ → Option Cause
cause_of_text text =
    if bytes_eq text (codes "quantity") then Some Quantity
    else if bytes_eq text (codes "no-price") then Some NoPrice
    else if bytes_eq text (codes "price") then Some PriceForm
    else if bytes_eq text (codes "buying-power") then Some BuyingPower
    else if bytes_eq text (codes "unknown") then Some Unknown
    else if bytes_eq text (codes "closed") then Some Closed
    else None

-- the price and the limit of a kind: of a limit or stop order a price, of a stop-limit order both, and of the others '-'
abbrev pub no_price : List ℕ → Option (Option Price × Option Price)
no_price text = if bytes_eq text (45 ∷ []) then Some (None, None) else None

abbrev pub one_price : List ℕ → Option (Option Price × Option Price)
one_price text = option_map (λ price. (Some price, None)) (price_of_text text)

abbrev pub limit_step : List ℕ × List ℕ → Option (Option Price × Option Price)
limit_step parts =
    option_and_then (λ price. option_map (λ limit. (Some price, Some limit)) (price_of_text parts.1)) (price_of_text parts.0)

abbrev pub two_prices : List ℕ → Option (Option Price × Option Price)
two_prices text = option_and_then limit_step (cut text)

abbrev pub kept_prices_of : Kind → List ℕ → Option (Option Price × Option Price)
kept_prices_of Market text = no_price text
kept_prices_of Limit text = one_price text
kept_prices_of Stop text = one_price text
kept_prices_of AtOpen text = no_price text
kept_prices_of StopLimit text = two_prices text

abbrev pub price_step : Kind → Shares → List ℕ → Option What
price_step kind quantity text =
    option_map (λ prices. Submitted kind quantity prices.0 prices.1) (kept_prices_of kind text)

abbrev pub quantity_step : Kind → List ℕ × List ℕ → Option What
quantity_step kind parts = option_and_then (λ quantity. price_step kind quantity parts.1) (quantity_of_text parts.0)

abbrev pub kind_step : List ℕ × List ℕ → Option What
kind_step parts = option_and_then (λ kind. option_and_then (quantity_step kind) (cut parts.1)) (kind_of_text parts.0)

-- a kind, a quantity and its prices
abbrev pub submitted_of_text : List ℕ → Option What
submitted_of_text text = option_and_then kind_step (cut text)

abbrev pub filled_as : List ℕ → Shares → Price → Money → What
filled_as symbol quantity price fee =
    Filled (record { symbol = symbol; quantity = quantity; price = price; fee = fee })

abbrev pub fee_step : List ℕ → Shares → Price → List ℕ × List ℕ → Option What
fee_step symbol quantity price parts =
    if bytes_eq parts.0 (codes "fee") then option_map (filled_as symbol quantity price) (fee_of_text parts.1) else None

abbrev pub fill_price_step : List ℕ → Shares → List ℕ × List ℕ → Option What
fill_price_step symbol quantity parts =
    option_and_then (λ price. option_and_then (fee_step symbol quantity price) (cut parts.1)) (price_of_text parts.0)

abbrev pub fill_step : List ℕ → List ℕ × List ℕ → Option What
fill_step symbol parts =
    option_and_then (λ quantity. option_and_then (fill_price_step symbol quantity) (cut parts.1)) (quantity_of_text parts.0)

-- a quantity, a price, the word fee and a fee
abbrev pub filled_of_text : List ℕ → List ℕ → Option What
filled_of_text symbol text = option_and_then (fill_step symbol) (cut text)

abbrev pub what_step : List ℕ → List ℕ × List ℕ → Option What
what_step symbol parts =
    if bytes_eq parts.0 (codes "submitted") then submitted_of_text parts.1
    else if bytes_eq parts.0 (codes "updated") then option_map Updated (price_of_text parts.1)
    else if bytes_eq parts.0 (codes "filled") then filled_of_text symbol parts.1
    else if bytes_eq parts.0 (codes "invalid") then option_map Invalid (cause_of_text parts.1)
    else None

abbrev pub what_of_text : List ℕ → List ℕ → Option What
what_of_text symbol text =
    if bytes_eq text (codes "canceled") then Some Canceled else option_and_then (what_step symbol) (cut text)

abbrev pub event_with : ℕ → ℕ → List ℕ → What → OrderEvent
event_with at id symbol what = record { at = record { 0 = pos at }; id = id; symbol = Some symbol; what = what }

abbrev pub symbol_step : ℕ → ℕ → List ℕ × List ℕ → Option OrderEvent
symbol_step at id parts =
    if is_symbol parts.0 then option_map (event_with at id parts.0) (what_of_text parts.0 parts.1) else None

abbrev pub id_step : ℕ → List ℕ × List ℕ → Option OrderEvent
id_step at parts = option_and_then (λ id. option_and_then (symbol_step at id) (cut parts.1)) (id_of_text parts.0)

abbrev pub order_step : ℕ → List ℕ × List ℕ → Option OrderEvent
order_step at parts =
    if bytes_eq parts.0 (codes "order") then option_and_then (id_step at) (cut parts.1) else None

abbrev pub order_of_text : ℕ → List ℕ → Option OrderEvent
order_of_text at text = option_and_then (order_step at) (cut text)

-- fourteen bytes of a moment, a space, and what follows
abbrev pub event_of_text : List ℕ → Option OrderEvent
event_of_text text =
    if nat_lt 14 (length text) && (slice_index text 14 == 32)
    then option_and_then (λ at. order_of_text at (drop 15 text)) (moment_of_text (take 14 text))
    else None
