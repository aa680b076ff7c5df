-- What the commands of a moment do to the fills and the marks of a book, and what they reply of them.
use Rattle.std.proofs.Common.{◌≡◌, ℕ, ℤ, List, [], ◌∷◌, ◌++◌, Bool, true, false, cond, refl, sym, ap, ◌∙◌}
use Rattle.std.specs.Prelude.{Option, Some, None, not, ◌||◌, if◌then◌else◌, option_map, option_and_then}
use Rattle.std.specs.List.{AllByRecursion as Each, filter_map, cons_option}
use Rattle.std.proofs.lemmas.List.{append-nil, append_assoc, map-append}
use Rattle.std.proofs.lemmas.List.Elements.{filter_map-append}
use Rattle.exchange_hours.specs.Sessions.{is_open_at}
use Rattle.lean_fixed.specs.declared.money.Price.{Price}
use Rattle.lean_fixed.specs.declared.time.Moment.{Moment}
use Rattle.lean_fixed.specs.Ranges.{is_price}
use Rattle.lean_orders.specs.declared.order.Kind.{Kind}
use Rattle.lean_orders.specs.declared.order.Kind.TheVariants.{Market, AtOpen}
use Rattle.lean_orders.specs.declared.order.Order.{Order}
use Rattle.lean_orders.specs.declared.order.OrderState.TheVariants as state
use Rattle.lean_orders.specs.declared.order.Request.{Request}
use Rattle.lean_orders.specs.declared.event.Cause.{Cause}
use Rattle.lean_orders.specs.declared.event.Cause.TheVariants.{PriceForm, Closed}
use Rattle.lean_orders.specs.declared.event.Fill.{Fill}
use Rattle.lean_orders.specs.declared.event.What.TheVariants as what
use Rattle.lean_orders.specs.declared.desk.PriceBar.{PriceBar}
use Rattle.lean_orders.specs.declared.desk.Reply.{Reply}
use Rattle.lean_orders.specs.declared.desk.Reply.TheVariants as reply
use Rattle.lean_orders.specs.declared.desk.Command.{Command}
use Rattle.lean_orders.specs.declared.desk.Command.TheVariants.{Mark, Match, Submit, Update, Cancel, Account}
use Rattle.fill_models.specs.FillPrice.{fill_price}
use Rattle.portfolio.specs.Sums as sums
use Rattle.clock_book.specs.Books.{Book, is_live, order_of, price_of, price_mark, price_marks, table_bar, opening_of}
use Rattle.clock_book.specs.Submits.{has_price, submit_cause, fill_at}
use Rattle.clock_book.specs.Matches.{in_state, bar_of, set_off, fill_on, matched, match_event, filled_event}
use Rattle.clock_book.specs.Handled.{Handled, handled, accepted_submit, priced_submit, judged_submit, market_submit, resting_submit, update_found, cancel_found, refused, done, said, with_orders, replaced, at_price}
use Rattle.report_laws.specs.Fills.{fill_shown}
use Rattle.report_laws.specs.Ledger.{Ledger}

-- the ledger of a book
abbrev pub book_ledger : Book → Ledger
book_ledger book = record { start = book.start; fills = book.fills; prices = price_marks book }

-- with more fills and more prices
abbrev pub grown : Ledger → List Fill → List sums.Mark → Ledger
grown ledger fills prices = record { start = ledger.start; fills = ledger.fills ++ fills; prices = ledger.prices ++ prices }

pub grown-nothing : (ledger : Ledger) → grown ledger [] [] ≡ ledger
grown-nothing ledger = λ i. record { start = ledger.start; fills = append-nil ledger.fills i; prices = append-nil ledger.prices i }

pub grown-twice : (ledger : Ledger) (fills more : List Fill) (prices later : List sums.Mark)
    → grown (grown ledger fills prices) more later ≡ grown ledger (fills ++ more) (prices ++ later)
grown-twice ledger fills more prices later =
    λ i. record { start = ledger.start; fills = append_assoc ledger.fills fills more i; prices = append_assoc ledger.prices prices later i }

-- the fill that a reply shows, and the price that a command gives
abbrev pub fill_replied : Reply → Option Fill
fill_replied (reply.Event event) = fill_shown event.symbol event.what
fill_replied (reply.Account cash equity) = None
fill_replied reply.Done = None

abbrev pub price_given : Command → List sums.Mark
price_given (Mark at symbol bar) = record { symbol = symbol; price = bar.closing.0 } ∷ []
price_given (Match at) = []
price_given (Submit at request) = []
price_given (Update at id price) = []
price_given (Cancel at id) = []
price_given (Account at) = []

-- no account is told
abbrev pub IsEventReply : Reply → Type 0
IsEventReply (reply.Event event) = Unit {0}
IsEventReply (reply.Account cash equity) = ⊥
IsEventReply reply.Done = Unit {0}

-- the book goes on by the fills that its replies show and by some prices, and no account is told
pub record Pays (book : Book) (prices : List sums.Mark) (h : Handled) : Type 0 where
  pub ledger : book_ledger h.book ≡ grown (book_ledger book) (filter_map fill_replied h.replies) prices
  pub events : Each IsEventReply h.replies

-- a command without a fill and a mark
pays-nothing : (book : Book) (h : Handled) → book_ledger h.book ≡ book_ledger book → filter_map fill_replied h.replies ≡ [] → Each IsEventReply h.replies
    → Pays book [] h
pays-nothing book h same none events = record {
  ledger = same ∙ sym (grown-nothing (book_ledger book)) ∙ ap (λ fills. grown (book_ledger book) fills []) (sym none);
  events = events;
}

either : (book : Book) (prices : List sums.Mark) (b : Bool) (x y : Handled) → Pays book prices x → Pays book prices y → Pays book prices (cond b x y)
either book prices true x y p q = p
either book prices false x y p q = q

-- ---- a match

-- the fill of an order is one of its symbol
match-shows : (book : Book) (at : Moment) (order : Order) (rest : List Reply)
    → filter_map fill_replied (cons_option (match_event book at order) rest) ≡ cons_option (matched book order) (filter_map fill_replied rest)
match-shows book at order rest = by_bar (bar_of book order)
  where
    shows : Option Fill → Type 0
    shows fill = filter_map fill_replied (cons_option (option_map (filled_event at order) fill) rest) ≡ cons_option fill (filter_map fill_replied rest)

    by_price : (price : Option ℤ) → shows (option_map (fill_at book.costs order.symbol order.quantity.0) price)
    by_price None = refl
    by_price (Some price) = refl

    by_bar : (bar : Option PriceBar) → shows (option_and_then (fill_on book.costs book.hours order) bar)
    by_bar None = refl
    by_bar (Some bar) =
        by_price (option_and_then (λ opens. fill_price (set_off book.hours order bar) (table_bar bar) opens book.costs) (opening_of book.hours bar.start.0))

matches-show : (book : Book) (at : Moment) (orders : List Order)
    → filter_map fill_replied (filter_map (match_event book at) orders) ≡ filter_map (matched book) orders
matches-show book at [] = refl
matches-show book at (order ∷ orders) =
    match-shows book at order (filter_map (match_event book at) orders)
    ∙ ap (λ fills. cons_option (matched book order) fills) (matches-show book at orders)

matches-tell : (book : Book) (at : Moment) (orders : List Order) → Each IsEventReply (filter_map (match_event book at) orders ++ reply.Done ∷ [])
matches-tell book at [] = (tt, tt)
matches-tell book at (order ∷ orders) = by (matched book order) (matches-tell book at orders)
  where
    by : (fill : Option Fill) → Each IsEventReply (filter_map (match_event book at) orders ++ reply.Done ∷ [])
        → Each IsEventReply (cons_option (option_map (filled_event at order) fill) (filter_map (match_event book at) orders) ++ reply.Done ∷ [])
    by None later = later
    by (Some fill) later = (tt, later)

match-pays : (book : Book) (at : Moment) → Pays book [] (handled book (Match at))
match-pays book at =
    let tries = filter_map (match_event book at) book.orders in
    let shown : filter_map fill_replied (filter_map (match_event book at) book.orders ++ reply.Done ∷ []) ≡ filter_map (matched book) book.orders =
    filter_map-append fill_replied tries (reply.Done ∷ []) ∙ append-nil (filter_map fill_replied tries) ∙ matches-show book at book.orders in
    record {
      ledger = λ i. record { start = book.start; fills = book.fills ++ sym shown i; prices = sym (append-nil (price_marks book)) i };
      events = matches-tell book at book.orders;
    }

-- ---- what rules ask for

accepted-pays : (book : Book) (at : Moment) (request : Request) (kind : Kind) (price : ℤ) → Pays book [] (accepted_submit book at request kind price)
accepted-pays book at request Market price =
    either book [] (is_open_at book.hours at.0) (market_submit book at request price) (resting_submit book at request AtOpen)
    (record { ledger = λ i. record { start = book.start; fills = (market_submit book at request price).book.fills; prices = sym (append-nil (price_marks book)) i }; events = (tt, (tt, (tt, tt))) })
    (pays-nothing book (resting_submit book at request AtOpen) refl refl (tt, (tt, tt)))
accepted-pays book at request kind price = pays-nothing book (resting_submit book at request kind) refl refl (tt, (tt, tt))

priced-pays : (book : Book) (at : Moment) (request : Request) (price : Option ℤ) → Pays book [] (priced_submit book at request price)
priced-pays book at request None = pays-nothing book (done [] book) refl refl (tt, tt)
priced-pays book at request (Some price) = accepted-pays book at request request.kind price

judged-pays : (book : Book) (at : Moment) (request : Request) (cause : Option Cause) → Pays book [] (judged_submit book at request cause)
judged-pays book at request (Some cause) = pays-nothing book (judged_submit book at request (Some cause)) refl refl (tt, (tt, tt))
judged-pays book at request None = priced-pays book at request (price_of book request.symbol)

updated-pays : (book : Book) (at : Moment) (id : ℕ) (price : Price) (order : Option Order) → Pays book [] (update_found book at id price order)
updated-pays book at id price None = pays-nothing book (update_found book at id price None) refl refl (tt, (tt, tt))
updated-pays book at id price (Some order) =
    let changed = done (said at order.id order.symbol (what.Updated price) ∷ []) (with_orders book (replaced book.orders (at_price price order))) in
    either book [] (not (is_live order.state)) (refused book at order Closed)
    (if not (has_price order.kind) || not (is_price price.0) then refused book at order PriceForm else changed)
    (pays-nothing book (refused book at order Closed) refl refl (tt, (tt, tt)))
    (either book [] (not (has_price order.kind) || not (is_price price.0)) (refused book at order PriceForm) changed
    (pays-nothing book (refused book at order PriceForm) refl refl (tt, (tt, tt))) (pays-nothing book changed refl refl (tt, (tt, tt))))

canceled-pays : (book : Book) (at : Moment) (id : ℕ) (order : Option Order) → Pays book [] (cancel_found book at id order)
canceled-pays book at id None = pays-nothing book (cancel_found book at id None) refl refl (tt, (tt, tt))
canceled-pays book at id (Some order) =
    let changed = done (said at order.id order.symbol what.Canceled ∷ []) (with_orders book (replaced book.orders (in_state state.Canceled order))) in
    either book [] (not (is_live order.state)) (refused book at order Closed) changed
    (pays-nothing book (refused book at order Closed) refl refl (tt, (tt, tt))) (pays-nothing book changed refl refl (tt, (tt, tt)))

-- a command that does not ask for the account
abbrev pub IsNoAsking : Command → Type 0
IsNoAsking (Account at) = ⊥
IsNoAsking _ = Unit {0}

pub command-pays : (book : Book) (c : Command) → IsNoAsking c → Pays book (price_given c) (handled book c)
command-pays book (Mark at symbol bar) plain = record {
  ledger = λ i. record {
    start = book.start;
    fills = sym (append-nil book.fills) i;
    prices = map-append price_mark book.marks (record { symbol = symbol; bar = bar } ∷ []) i;
  };
  events = (tt, tt);
}
command-pays book (Match at) plain = match-pays book at
command-pays book (Submit at request) plain = judged-pays book at request (submit_cause book request)
command-pays book (Update at id price) plain = updated-pays book at id price (order_of book id)
command-pays book (Cancel at id) plain = canceled-pays book at id (order_of book id)
command-pays book (Account at) plain = absurd plain
