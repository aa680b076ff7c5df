-- What each command does to a book and what it replies.
use Rattle.std.specs.Prelude.{ℕ, ◌==◌, ℤ, not, ◌||◌, if◌then◌else◌, List, [], ◌∷◌, ◌++◌, map, Option, Some, None}
use Rattle.lean_fixed.specs.Ranges.{is_price}
use Rattle.lean_fixed.specs.declared.money.Price.{Price}
use Rattle.lean_fixed.specs.declared.time.Moment.{Moment}
use Rattle.exchange_hours.specs.Sessions.{is_open_at}
use Rattle.lean_orders.specs.declared.order.Kind.{Kind}
use Rattle.lean_orders.specs.declared.order.Kind.TheVariants.{Market, Limit, Stop, AtOpen, StopLimit}
use Rattle.lean_orders.specs.declared.order.Request.{Request}
use Rattle.lean_orders.specs.declared.order.Order.{Order}
use Rattle.lean_orders.specs.declared.order.OrderState.TheVariants as state
use Rattle.lean_orders.specs.declared.event.Cause.{Cause}
use Rattle.lean_orders.specs.declared.event.Cause.TheVariants.{PriceForm, Unknown, Closed}
use Rattle.lean_orders.specs.declared.event.Fill.{Fill}
use Rattle.lean_orders.specs.declared.event.What.{What}
use Rattle.lean_orders.specs.declared.event.What.TheVariants as what
use Rattle.lean_orders.specs.declared.desk.PriceBar.{PriceBar}
use Rattle.lean_orders.specs.declared.desk.Reply.{Reply}
use Rattle.lean_orders.specs.declared.desk.Reply.TheVariants as reply
use Rattle.lean_orders.specs.declared.desk.Command.{Command}
use Rattle.lean_orders.specs.declared.desk.Command.TheVariants as command
use Rattle.clock_book.specs.Books.{BarMark, Book, price_of, cash_of, equity_of, order_of, is_live}
use Rattle.clock_book.specs.Submits.{has_price, next_id, kept_price, kept_limit, order_for, submit_cause, market_fill}
use Rattle.clock_book.specs.Matches.{match_events, book_after_match, in_state}

-- the replies to a command, of which `Done` is the last, and the book after it
pub record Handled : Type 0 where
  pub replies : List Reply
  pub book : Book

abbrev pub done : List Reply → Book → Handled
done replies book = record { replies = replies ++ reply.Done ∷ []; book = book }

-- what is said of an order
abbrev pub said : Moment → ℕ → List ℕ → What → Reply
said at id symbol what = reply.Event (record { at = at; id = id; symbol = Some symbol; what = what })

-- the book with other orders, and with another fill
abbrev pub with_orders : Book → List Order → Book
with_orders book orders = record book { orders = orders }

abbrev pub with_fill : Book → Fill → Book
with_fill book fill = record book { fills = book.fills ++ fill ∷ [] }

abbrev pub with_mark : Book → BarMark → Book
with_mark book mark = record book { marks = book.marks ++ mark ∷ [] }

-- a mark replies nothing
abbrev pub handled_mark : Book → List ℕ → PriceBar → Handled
handled_mark book symbol bar = done [] (with_mark book (record { symbol = symbol; bar = bar }))

-- the live orders are tried by id
abbrev pub handled_match : Book → Moment → Handled
handled_match book at = done (match_events book at) (book_after_match book)

-- a request that is refused takes an id too
abbrev pub refused_submit : Book → Moment → Request → Cause → Handled
refused_submit book at request cause =
    done (said at (next_id book) request.symbol (what.Invalid cause) ∷ [])
    (with_orders book (book.orders ++ order_for book at request request.kind state.Refused ∷ []))

-- an order that rests
abbrev pub resting_submit : Book → Moment → Request → Kind → Handled
resting_submit book at request kind =
    done
    (said at (next_id book) request.symbol (what.Submitted kind request.quantity (kept_price kind request.price) (kept_limit kind request.limit)) ∷ [])
    (with_orders book (book.orders ++ order_for book at request kind state.Live ∷ []))

-- a market order while the exchange is open fills at once
abbrev pub market_submit : Book → Moment → Request → ℤ → Handled
market_submit book at request price =
    let fill = market_fill book request price in
    done (said at (next_id book) request.symbol (what.Submitted Market request.quantity None None)
    ∷ said at (next_id book) request.symbol (what.Filled fill) ∷ [])
    (with_fill (with_orders book (book.orders ++ order_for book at request Market state.Filled ∷ [])) fill)

-- while the exchange is closed a market order rests as one for the open
abbrev pub accepted_submit : Book → Moment → Request → Kind → ℤ → Handled
accepted_submit book at request Market price =
    if is_open_at book.hours at.0 then market_submit book at request price else resting_submit book at request AtOpen
accepted_submit book at request Limit price = resting_submit book at request Limit
accepted_submit book at request Stop price = resting_submit book at request Stop
accepted_submit book at request AtOpen price = resting_submit book at request AtOpen
accepted_submit book at request StopLimit price = resting_submit book at request StopLimit

-- a request that has no cause against it has a price
abbrev pub priced_submit : Book → Moment → Request → Option ℤ → Handled
priced_submit book at request None = done [] book
priced_submit book at request (Some price) = accepted_submit book at request request.kind price

abbrev pub judged_submit : Book → Moment → Request → Option Cause → Handled
judged_submit book at request (Some cause) = refused_submit book at request cause
judged_submit book at request None = priced_submit book at request (price_of book request.symbol)

abbrev pub handled_submit : Book → Moment → Request → Handled
handled_submit book at request = judged_submit book at request (submit_cause book request)

-- an update or a cancel of an id that was not given out
abbrev pub unknown : Book → Moment → ℕ → Handled
unknown book at id =
    done (reply.Event (record { at = at; id = id; symbol = None; what = what.Invalid Unknown }) ∷ []) book

abbrev pub refused : Book → Moment → Order → Cause → Handled
refused book at order cause = done (said at order.id order.symbol (what.Invalid cause) ∷ []) book

-- an order in the place of that with its id
abbrev pub replaced : List Order → Order → List Order
replaced orders order = map (λ old. if old.id == order.id then order else old) orders

-- the order at another price: its moment and its limit stay, and what is triggered stays triggered
abbrev pub at_price : Price → Order → Order
at_price price order = record order { price = Some price }

abbrev pub updated_order : Book → Moment → Price → Order → Handled
updated_order book at price order =
    if not (is_live order.state) then refused book at order Closed
    else if not (has_price order.kind) || not (is_price price.0) then refused book at order PriceForm
    else done (said at order.id order.symbol (what.Updated price) ∷ []) (with_orders book (replaced book.orders (at_price price order)))

abbrev pub update_found : Book → Moment → ℕ → Price → Option Order → Handled
update_found book at id price None = unknown book at id
update_found book at id price (Some order) = updated_order book at price order

abbrev pub canceled_order : Book → Moment → Order → Handled
canceled_order book at order =
    if not (is_live order.state) then refused book at order Closed
    else done (said at order.id order.symbol what.Canceled ∷ []) (with_orders book (replaced book.orders (in_state state.Canceled order)))

abbrev pub cancel_found : Book → Moment → ℕ → Option Order → Handled
cancel_found book at id None = unknown book at id
cancel_found book at id (Some order) = canceled_order book at order

-- the cash and the equity
abbrev pub handled_account : Book → Handled
handled_account book =
    done (reply.Account (record { 0 = cash_of book }) (record { 0 = equity_of book }) ∷ []) book

abbrev pub handled : Book → Command → Handled
handled book (command.Mark at symbol bar) = handled_mark book symbol bar
handled book (command.Match at) = handled_match book at
handled book (command.Submit at request) = handled_submit book at request
handled book (command.Update at id price) = update_found book at id price (order_of book id)
handled book (command.Cancel at id) = cancel_found book at id (order_of book id)
handled book (command.Account at) = handled_account book

-- the book after some commands, and all their replies
unfoldable pub after : Book → List Command → Book
after book [] = book
after book (c ∷ later) = after (handled book c).book later

unfoldable pub replies : Book → List Command → List Reply
replies book [] = []
replies book (c ∷ later) = (handled book c).replies ++ replies (handled book c).book later
