-- Which orders a bar changes.
use Rattle.std.specs.Prelude.{◌≡◌, ℕ, ◌<◌, Bool, true, false, not, ◌&&◌, ◌||◌, is_some, List, length, Some, slice_get, Contains}
use Rattle.std.specs.List.{All}
use Rattle.std.specs.Map.{lookup}
use Rattle.std.specs.Option.{option_map_or}
use Rattle.exchange_hours.specs.Entries.{Entries}
use Rattle.lean_orders.specs.declared.desk.PriceBar.{PriceBar}
use Rattle.lean_orders.specs.declared.order.Order.{Order}
use Rattle.portfolio.specs.Symbols.{same_symbol}
use Rattle.trade_costs.specs.declared.costs.Costs.{Costs}
use Rattle.clock_book.specs.Books.{is_live}
use Rattle.clock_book.specs.Matches.{is_set_off, fill_on}
use Rattle.order_book.specs.Resting.{IsRanged}

-- a bar fills a live order, or triggers one that wasn't
abbrev pub changes : Costs → Entries → PriceBar → Order → Bool
changes costs hours bar order =
    is_live order.state
    && (is_some (fill_on costs hours order bar) || (is_set_off hours order bar && not order.triggered))

-- the same of the order at a place
abbrev pub changes_at : Costs → Entries → PriceBar → List Order → ℕ → Bool
changes_at costs hours bar orders place = option_map_or (changes costs hours bar) (slice_get orders place) false

-- the bar that is kept of an order's symbol changes it
abbrev pub is_due : Costs → Entries → List (List ℕ × PriceBar) → Order → Bool
is_due costs hours bars order =
    option_map_or (λ bar. changes costs hours bar order) (lookup (same_symbol order.symbol) bars) false

-- the numbers of each live order are in their ranges
pub record AreRanged (orders : List Order) : Type 0 where
  pub each : (k : ℕ) (order : Order) → slice_get orders k ≡ Some order → is_live order.state ≡ true → IsRanged order

-- some places are among others, which are those of orders, too
pub record Grows (orders : List Order) (before after : List ℕ) : Type 0 where
  pub stay : (k : ℕ) → Contains before k → Contains after k
  pub within : All (λ k. k < length orders) before → All (λ k. k < length orders) after

-- some places are at least those of the orders that the bar of a symbol changes
pub record Finds (costs : Costs) (hours : Entries) (symbol : List ℕ) (bar : PriceBar) (orders : List Order) (due : List ℕ) : Type 0 where
  pub found : (k : ℕ) (order : Order) → slice_get orders k ≡ Some order → same_symbol order.symbol symbol ≡ true
      → changes costs hours bar order ≡ true → Contains due k

-- the same of the bar that is kept at a place
abbrev pub FindsAt : Costs → Entries → List (List ℕ × PriceBar) → ℕ → List Order → List ℕ → Type 0
FindsAt costs hours bars i orders due =
    (entry : List ℕ × PriceBar) → slice_get bars i ≡ Some entry → Finds costs hours entry.0 entry.1 orders due
