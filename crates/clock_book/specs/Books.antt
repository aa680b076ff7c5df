-- A book: what it was begun with, and the lists of all that happened to it.
use Rattle.std.specs.Prelude.{ℕ, ◌==◌, ℤ, pos, negsuc, Bool, true, false, ◌&&◌, if◌then◌else◌, List, [], ◌∷◌, map, Option, Some, None, option_map, drop}
use Rattle.std.specs.List.{find}
use Rattle.std.specs.Option.{option_or}
use Rattle.lean_fixed.specs.Moments.{day_of}
use Rattle.exchange_hours.specs.Entries.{Entries}
use Rattle.exchange_hours.specs.Sessions.{session}
use Rattle.lean_items.specs.declared.bar.Bar.{Bar}
use Rattle.lean_orders.specs.declared.desk.PriceBar.{PriceBar}
use Rattle.lean_orders.specs.declared.order.Order.{Order}
use Rattle.lean_orders.specs.declared.order.OrderState.{OrderState}
use Rattle.lean_orders.specs.declared.order.OrderState.TheVariants.{Live, Filled, Canceled, Refused}
use Rattle.lean_orders.specs.declared.event.Fill.{Fill}
use Rattle.trade_costs.specs.declared.costs.Costs.{Costs}
use Rattle.portfolio.specs.Symbols.{same_symbol}
use Rattle.portfolio.specs.Sums as sums

-- a bar by which a symbol was marked
pub record BarMark : Type 0 where
  pub symbol : List ℕ
  pub bar : PriceBar

-- The starting cash, costs, leverage and hours; all marks, orders and fills in the order in which they came;
-- and how many marks there were when the orders were last tried.
pub record Book : Type 0 where
  pub start : ℤ
  pub costs : Costs
  pub leverage : ℕ
  pub hours : Entries
  pub marks : List BarMark
  pub orders : List Order
  pub fills : List Fill
  pub tried : ℕ

-- a new book
abbrev pub new_book : ℤ → Costs → ℕ → Entries → Book
new_book start costs leverage hours =
    record { start = start; costs = costs; leverage = leverage; hours = hours; marks = []; orders = []; fills = []; tried = 0 }

-- the marks as prices: a symbol's price is the closing price of the bar
abbrev pub price_mark : BarMark → sums.Mark
price_mark mark = record { symbol = mark.symbol; price = mark.bar.closing.0 }

abbrev pub price_marks : Book → List sums.Mark
price_marks book = map price_mark book.marks

-- the price of a symbol by its last mark
abbrev pub price_of : Book → List ℕ → Option ℤ
price_of book symbol = sums.last_mark symbol (price_marks book)

abbrev pub position_of : Book → List ℕ → ℤ
position_of book symbol = sums.position symbol book.fills

abbrev pub cash_of : Book → ℤ
cash_of book = sums.cash book.start book.fills

abbrev pub equity_of : Book → ℤ
equity_of book = sums.equity book.start book.fills (price_marks book)

-- the gross value of the positions in the other symbols
abbrev pub others_of : Book → List ℕ → ℤ
others_of book symbol = sums.gross_without symbol book.fills (price_marks book)

-- the order of an id
abbrev pub order_of : Book → ℕ → Option Order
order_of book id = find (λ order. order.id == id) book.orders

abbrev pub is_live : OrderState → Bool
is_live Live = true
is_live Filled = false
is_live Canceled = false
is_live Refused = false

-- the last real bar of a symbol among some marks
abbrev pub last_real_bar : List ℕ → List BarMark → Option PriceBar
last_real_bar symbol [] = None
last_real_bar symbol (mark ∷ later) =
    option_or (last_real_bar symbol later) (if same_symbol symbol mark.symbol && mark.bar.real then Some mark.bar else None)

-- the bar on which the orders of a symbol are tried: the last real one since they were last tried
abbrev pub bar_to_try : Book → List ℕ → Option PriceBar
bar_to_try book symbol = last_real_bar symbol (drop book.tried book.marks)

-- the same bar, as the fill table takes it
abbrev pub table_bar : PriceBar → Bar
table_bar bar =
    record {
      start = bar.start;
      «end» = bar.end;
      opening = bar.opening;
      high = bar.high;
      low = bar.low;
      closing = bar.closing;
      volume = bar.volume;
      real = bar.real;
    }

-- the opening of the session of a moment's day
abbrev pub opening_of : Entries → ℤ → Option ℤ
opening_of hours (pos t) = option_map (λ s. pos s.opens) (session hours (day_of t))
opening_of hours (negsuc _) = None
