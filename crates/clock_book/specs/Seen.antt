-- What can be told of a book from its replies alone: its prices, its fills, and its live orders by id, symbol and kind.
use Rattle.std.specs.Prelude.{◌≡◌, ℕ, ◌+◌, ◌==◌, ℤ, not, List, [], ◌∷◌, ◌++◌, map, filter, Option, Some, None}
use Rattle.lean_orders.specs.declared.order.Order.{Order}
use Rattle.lean_orders.specs.declared.order.Resting.{Resting}
use Rattle.lean_orders.specs.declared.event.Fill.{Fill}
use Rattle.lean_orders.specs.declared.event.What.{What}
use Rattle.lean_orders.specs.declared.event.What.TheVariants.{Submitted, Updated, Filled, Canceled, Invalid}
use Rattle.lean_orders.specs.declared.desk.Reply.{Reply}
use Rattle.lean_orders.specs.declared.desk.Reply.TheVariants as reply
use Rattle.lean_orders.specs.declared.desk.Command.{Command}
use Rattle.lean_orders.specs.declared.desk.Command.TheVariants as command
use Rattle.portfolio.specs.Sums as sums
use Rattle.clock_book.specs.Books.{Book, is_live, price_marks}

-- a live order as a strategy sees it
abbrev pub resting_of : Order → Resting
resting_of order = record { id = order.id; symbol = order.symbol; kind = order.kind }

abbrev pub live_of : List Order → List Resting
live_of orders = map resting_of (filter (λ order. is_live order.state) orders)

-- the starting cash, the marks as prices, the fills, and the live orders, by id
pub record Seen : Type 0 where
  pub start : ℤ
  pub marks : List sums.Mark
  pub fills : List Fill
  pub live : List Resting

abbrev pub seen_of : Book → Seen
seen_of book = record { start = book.start; marks = price_marks book; fills = book.fills; live = live_of book.orders }

abbrev pub without_id : ℕ → List Resting → List Resting
without_id id live = filter (λ order. not (order.id == id)) live

-- what is learnt from what happened to an order of an id and, where there is such an order, a symbol
abbrev pub what_learnt : Seen → ℕ → Option (List ℕ) → What → Seen
what_learnt seen id None what = seen
what_learnt seen id (Some symbol) (Submitted kind quantity price limit) =
    record seen { live = seen.live ++ record { id = id; symbol = symbol; kind = kind } ∷ [] }
what_learnt seen id (Some symbol) (Filled fill) =
    record seen { fills = seen.fills ++ fill ∷ []; live = without_id id seen.live }
what_learnt seen id (Some symbol) Canceled = record seen { live = without_id id seen.live }
what_learnt seen id (Some symbol) (Updated price) = seen
what_learnt seen id (Some symbol) (Invalid cause) = seen

-- what is learnt from a reply
abbrev pub learnt : Seen → Reply → Seen
learnt seen (reply.Event event) = what_learnt seen event.id event.symbol event.what
learnt seen (reply.Account cash equity) = seen
learnt seen reply.Done = seen

-- what is known as a command is given: a price by its mark, which has no reply of its own
abbrev pub given_out : Seen → Command → Seen
given_out seen (command.Mark at symbol bar) =
    record seen { marks = seen.marks ++ record { symbol = symbol; price = bar.closing.0 } ∷ [] }
given_out seen (command.Match at) = seen
given_out seen (command.Submit at request) = seen
given_out seen (command.Update at id price) = seen
given_out seen (command.Cancel at id) = seen
given_out seen (command.Account at) = seen

-- ids count from a number on
abbrev pub AreNumbered : ℕ → List Order → Type 0
AreNumbered n [] = Unit {0}
AreNumbered n (order ∷ later) = (order.id ≡ n) × AreNumbered (n + 1) later
