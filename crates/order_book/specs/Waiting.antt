-- Of each symbol the places of the orders that may be live.
use Rattle.std.specs.Prelude.{◌≡◌, ℕ, true, List, [], Some, unwrap_or, slice_get, Contains}
use Rattle.std.specs.Map.{lookup}
use Rattle.lean_orders.specs.declared.order.Order.{Order}
use Rattle.portfolio.specs.Symbols.{same_symbol}
use Rattle.clock_book.specs.Books.{is_live}

-- the places of a symbol
abbrev pub places_of : List (List ℕ × List ℕ) → List ℕ → List ℕ
places_of entries symbol = unwrap_or (lookup (same_symbol symbol) entries) []

-- the place of each live order is among those of its symbol
pub record Waits (entries : List (List ℕ × List ℕ)) (orders : List Order) : Type 0 where
  pub named : (k : ℕ) (order : Order) → slice_get orders k ≡ Some order → is_live order.state ≡ true
      → Contains (places_of entries order.symbol) k
