-- What rules ask for leaves the marks of a book as they are, and so does asking for the account.
use Rattle.std.proofs.Common.{◌≡◌, ℕ, List, [], ◌∷◌, Bool, true, false, refl, ◌∙◌}
use Rattle.std.specs.Prelude.{Option, Some, None, ℤ, cond, not, ◌||◌, if◌then◌else◌}
use Rattle.std.specs.List.{AllByRecursion as Each}
use Rattle.lean_fixed.specs.declared.money.Price.{Price}
use Rattle.lean_fixed.specs.declared.time.Moment.{Moment}
use Rattle.exchange_hours.specs.Sessions.{is_open_at}
use Rattle.lean_orders.specs.declared.order.Kind.{Kind}
use Rattle.lean_orders.specs.declared.order.Kind.TheVariants.{Market, AtOpen}
use Rattle.lean_orders.specs.declared.order.Order.{Order}
use Rattle.lean_orders.specs.declared.order.Request.{Request}
use Rattle.lean_orders.specs.declared.event.Cause.{Cause}
use Rattle.lean_orders.specs.declared.event.Cause.TheVariants.{PriceForm, Closed}
use Rattle.lean_orders.specs.declared.event.What.TheVariants as what
use Rattle.lean_orders.specs.declared.order.OrderState.TheVariants as state
use Rattle.lean_orders.specs.declared.desk.Command.{Command}
use Rattle.lean_orders.specs.declared.desk.Command.TheVariants.{Mark, Match, Submit, Update, Cancel, Account}
use Rattle.clock_book.specs.Books.{Book, is_live, order_of, price_of}
use Rattle.lean_fixed.specs.Ranges.{is_price}
use Rattle.clock_book.specs.Submits.{has_price, submit_cause}
use Rattle.clock_book.specs.Handled.{Handled, handled, after, accepted_submit, priced_submit, judged_submit, market_submit, resting_submit, update_found, cancel_found, refused, done, said, with_orders, replaced, at_price}
use Rattle.clock_book.specs.Matches.{in_state}

-- a command that is no mark and no match
abbrev pub IsTrade : Command → Type 0
IsTrade (Mark at symbol bar) = ⊥
IsTrade (Match at) = ⊥
IsTrade (Submit at request) = Unit {0}
IsTrade (Update at id price) = Unit {0}
IsTrade (Cancel at id) = Unit {0}
IsTrade (Account at) = Unit {0}

pub record LeavesMarks (old new : Book) : Type 0 where
  pub marks : new.marks ≡ old.marks
  pub tried : new.tried ≡ old.tried

same-marks : (book : Book) → LeavesMarks book book
same-marks book = record { marks = refl; tried = refl }

either : (book : Book) (b : Bool) (x y : Handled) → LeavesMarks book x.book → LeavesMarks book y.book → LeavesMarks book (cond b x y).book
either book true x y p q = p
either book false x y p q = q

accepted-marks : (book : Book) (at : Moment) (request : Request) (kind : Kind) (price : ℤ)
    → LeavesMarks book (accepted_submit book at request kind price).book
accepted-marks book at request Market price =
    either book (is_open_at book.hours at.0) (market_submit book at request price) (resting_submit book at request AtOpen)
    (record { marks = refl; tried = refl }) (record { marks = refl; tried = refl })
accepted-marks book at request _ price = record { marks = refl; tried = refl }

priced-marks : (book : Book) (at : Moment) (request : Request) (price : Option ℤ) → LeavesMarks book (priced_submit book at request price).book
priced-marks book at request None = same-marks book
priced-marks book at request (Some price) = accepted-marks book at request request.kind price

judged-marks : (book : Book) (at : Moment) (request : Request) (cause : Option Cause) → LeavesMarks book (judged_submit book at request cause).book
judged-marks book at request (Some cause) = record { marks = refl; tried = refl }
judged-marks book at request None = priced-marks book at request (price_of book request.symbol)

updated-marks : (book : Book) (at : Moment) (id : ℕ) (price : Price) (order : Option Order) → LeavesMarks book (update_found book at id price order).book
updated-marks book at id price None = same-marks book
updated-marks book at id price (Some order) =
    let changed = done (said at order.id order.symbol (what.Updated price) ∷ []) (with_orders book (replaced book.orders (at_price price order))) in
    either book (not (is_live order.state)) (refused book at order Closed)
    (if not (has_price order.kind) || not (is_price price.0) then refused book at order PriceForm else changed)
    (same-marks book)
    (either book (not (has_price order.kind) || not (is_price price.0)) (refused book at order PriceForm) changed
    (same-marks book) (record { marks = refl; tried = refl }))

canceled-marks : (book : Book) (at : Moment) (id : ℕ) (order : Option Order) → LeavesMarks book (cancel_found book at id order).book
canceled-marks book at id None = same-marks book
canceled-marks book at id (Some order) =
    either book (not (is_live order.state)) (refused book at order Closed)
    (done (said at order.id order.symbol what.Canceled ∷ []) (with_orders book (replaced book.orders (in_state state.Canceled order))))
    (same-marks book) (record { marks = refl; tried = refl })

pub trade-marks : (book : Book) (command : Command) → IsTrade command → LeavesMarks book (handled book command).book
trade-marks book (Mark at symbol bar) trade = elim trade [ ]
trade-marks book (Match at) trade = elim trade [ ]
trade-marks book (Submit at request) trade = judged-marks book at request (submit_cause book request)
trade-marks book (Update at id price) trade = updated-marks book at id price (order_of book id)
trade-marks book (Cancel at id) trade = canceled-marks book at id (order_of book id)
trade-marks book (Account at) trade = same-marks book

pub trades-marks : (book : Book) (commands : List Command) → Each IsTrade commands → LeavesMarks book (after book commands)
unfolding after
trades-marks book [] trades = same-marks book
trades-marks book (c ∷ later) trades =
    let one = trade-marks book c trades.0 in
    let rest = trades-marks (handled book c).book later trades.1 in
    record { marks = rest.marks ∙ one.marks; tried = rest.tried ∙ one.tried }
