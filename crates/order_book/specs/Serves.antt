-- What a command does to what a book keeps.
use Rattle.std.specs.Prelude.{◌≡◌, ◌+◌, ◌≤◌, ℕ, List, ◌++◌, length}
use Rattle.lean_orders.specs.declared.desk.Reply.{Reply}
use Rattle.clock_book.specs.Books.{Book}
use Rattle.clock_book.specs.Handled.{Handled}
use Rattle.clock_book.specs.Fitting.{most_orders}
use Rattle.order_book.specs.Kept.{Kept, order_count}
use Rattle.order_book.specs.Stands.{StandsFor}

-- Of every book for which it stood, it stands now for the one that is made of it, and the replies stand behind those before.
-- It has so many orders more.
pub record Serves (handle : Book → Handled) (orders : ℕ) (old new : Kept) (before after : List Reply) : Type 0 where
  pub stands : (book : Book) → StandsFor old book → StandsFor new (handle book).book
  pub replies : (book : Book) → StandsFor old book → after ≡ before ++ (handle book).replies
  pub grows : (more : List Reply) × (after ≡ before ++ more) × (length more ≤ most_orders + 1)
  pub count : order_count new ≡ order_count old + orders
