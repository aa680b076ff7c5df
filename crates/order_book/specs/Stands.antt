-- A book in memory stands for a book with the list of all marks.
use Rattle.std.specs.Prelude.{◌≡◌, ◌≤◌, ℕ, List, length}
use Rattle.std.specs.Map.{lookup}
use Rattle.portfolio.specs.Symbols.{same_symbol}
use Rattle.portfolio.specs.Stands as account
use Rattle.clock_book.specs.Books.{Book, price_marks, bar_to_try}
use Rattle.order_book.specs.Kept.{Kept}

-- What it was begun with, the orders and the fills are the same; the account is that of the fills and the marks;
-- and the bar that is kept of a symbol is the one on which its orders are tried.
pub record StandsFor (kept : Kept) (book : Book) : Type 0 where
  pub costs : kept.costs ≡ book.costs
  pub leverage : kept.leverage ≡ book.leverage
  pub hours : kept.hours ≡ book.hours
  pub account : account.StandsFor kept.account book.start book.fills (price_marks book)
  pub orders : kept.orders ≡ book.orders
  pub fills : kept.fills ≡ book.fills
  pub bars : (symbol : List ℕ) → lookup (same_symbol symbol) kept.bars ≡ bar_to_try book symbol
  pub tried : book.tried ≤ length book.marks
