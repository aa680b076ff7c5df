-- A new book and some commands, small enough to compute the replies on.
use Rattle.std.specs.Prelude.{ℕ, ◌+◌, ℤ, pos, true, List, [], ◌∷◌, map, Option, Some, None}
use Rattle.exchange_hours.specs.Entries.{Entries}
use Rattle.exchange_hours.specs.Worked.{usual_segment}
use Rattle.lean_fixed.specs.declared.money.Price.{Price}
use Rattle.lean_fixed.specs.declared.time.Moment.{Moment}
use Rattle.lean_orders.specs.declared.desk.PriceBar.{PriceBar}
use Rattle.lean_orders.specs.declared.desk.Reply.{Reply}
use Rattle.lean_orders.specs.declared.desk.Reply.TheVariants.{Event}
use Rattle.lean_orders.specs.declared.event.What.{What}
use Rattle.lean_orders.specs.declared.order.Kind.{Kind}
use Rattle.lean_orders.specs.declared.order.Kind.TheVariants.{StopLimit}
use Rattle.lean_orders.specs.declared.order.Request.{Request}
use Rattle.clock_book.specs.Books.{Book, new_book}

-- from Monday to Friday, 09:30 to 16:00
abbrev pub usual_hours : Entries
usual_hours = record { segments = map usual_segment (1 ∷ 2 ∷ 3 ∷ 4 ∷ 5 ∷ []); holidays = []; early_closes = [] }

abbrev pub spider : List ℕ
spider = 83 ∷ 80 ∷ 89 ∷ []

-- a cash of 10,000,000 units, a fee of 1 unit a share and a slip of 2
abbrev pub usual_book : Book
usual_book =
    new_book (pos 10000000) (record { per_share = record { 0 = pos 1 }; least = record { 0 = pos 0 }; slip = pos 2 }) 2 usual_hours

-- Monday, 2013-10-07, 10:00 and so many minutes
abbrev pub minute : ℕ → Moment
minute n = record { 0 = pos (n + 23019000) }

abbrev pub price : ℕ → Price
price n = record { 0 = pos n }

abbrev pub ask : Kind → ℤ → Option Price → Request
ask kind quantity price =
    record { symbol = spider; kind = kind; quantity = record { 0 = quantity }; price = price; limit = None }

-- a stop-limit order of this quantity, stop and limit
abbrev pub ask_stop_limit : ℤ → ℕ → ℕ → Request
ask_stop_limit quantity stop limit = record (ask StopLimit quantity (Some (price stop))) { limit = Some (price limit) }

-- a real bar from a minute of that day to the next one
abbrev pub bar : ℕ → ℕ → ℕ → ℕ → ℕ → PriceBar
bar n opening high low closing =
    record {
      start = minute n;
      «end» = minute (n + 1);
      opening = price opening;
      high = price high;
      low = price low;
      closing = price closing;
      volume = record { 0 = pos 1 };
      real = true;
    }

-- what is said of an order
abbrev pub event : ℕ → ℕ → Option (List ℕ) → What → Reply
event n id symbol what = Event (record { at = minute n; id = id; symbol = symbol; what = what })
