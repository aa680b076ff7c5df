-- What every command has in common: some events or an account, and then `Done`; and a submit makes one order.
use Rattle.std.proofs.Common.{◌≡◌, ℕ, ◌+◌, ◌≤◌, ℤ, Bool, true, false, if◌then◌else◌, List, [], ◌∷◌, ◌++◌, length, Option, Some, None, refl, sym, ◌∙◌, subst, arith, not, ◌||◌, length-append}
use Rattle.std.specs.List.{filter_map, cons_option}
use Rattle.std.specs.Option.{option_map}
use Rattle.std.proofs.lemmas.List.{length-map}
use Rattle.lean_fixed.specs.Ranges.{is_price}
use Rattle.lean_fixed.specs.declared.money.Price.{Price}
use Rattle.lean_fixed.specs.declared.time.Moment.{Moment}
use Rattle.lean_orders.specs.declared.desk.Reply.{Reply}
use Rattle.lean_orders.specs.declared.desk.Reply.TheVariants as reply
use Rattle.lean_orders.specs.declared.desk.Command.{Command}
use Rattle.lean_orders.specs.declared.desk.Command.TheVariants as command
use Rattle.lean_orders.specs.declared.order.Kind.{Kind}
use Rattle.lean_orders.specs.declared.order.Kind.TheVariants.{Market, Limit, Stop, AtOpen, StopLimit}
use Rattle.lean_orders.specs.declared.order.Request.{Request}
use Rattle.lean_orders.specs.declared.order.Order.{Order}
use Rattle.lean_orders.specs.declared.event.Cause.{Cause}
use Rattle.lean_orders.specs.declared.event.Cause.TheVariants.{Quantity, NoPrice, PriceForm, BuyingPower}
use Rattle.lean_orders.specs.declared.order.OrderState.TheVariants.{Canceled}
use Rattle.lean_orders.specs.declared.event.Fill.{Fill}
use Rattle.clock_book.specs.Books.{Book, price_of, order_of, is_live}
use Rattle.clock_book.specs.Submits.{is_quantity, has_price, is_unpriced, cause_at_price}
use Rattle.clock_book.specs.Matches.{in_state, matched, filled_event, match_event, match_events}
use Rattle.clock_book.specs.Handled.{Handled, handled, done, with_orders, market_submit, resting_submit, accepted_submit, priced_submit, judged_submit, update_found, cancel_found, at_price, replaced}
use Rattle.order_desk.specs.Served.{is_done, dones}
use Rattle.clock_book.specs.Fitting.{submits}

-- a command was handled: so many orders more, some replies that aren't `Done`, and `Done`
pub record Answers (s : Book) (more : ℕ) (h : Handled) : Type 0 where
  pub events : List Reply
  pub is : h.replies ≡ events ++ reply.Done ∷ []
  pub none_done : dones events ≡ 0
  pub few : (most : ℕ) → length s.orders ≤ most → 2 ≤ most → length events ≤ most
  pub orders : length h.book.orders ≡ length s.orders + more

either : (s : Book) (more : ℕ) (b : Bool) (x y : Handled) → Answers s more x → Answers s more y → Answers s more (if b then x else y)
either s more true x y p q = p
either s more false x y p q = q

-- a match
match_dones : (s : Book) (at : Moment) (order : Order) (fill : Option Fill) (rest : List Reply) → dones rest ≡ 0
    → dones (cons_option (option_map (filled_event at order) fill) rest) ≡ 0
match_dones s at order None rest none = none
match_dones s at order (Some fill) rest none = none

matches_dones : (s : Book) (at : Moment) (orders : List Order) → dones (filter_map (match_event s at) orders) ≡ 0
matches_dones s at [] = refl
matches_dones s at (order ∷ orders) = match_dones s at order (matched s order) (filter_map (match_event s at) orders) (matches_dones s at orders)

match_length : (s : Book) (at : Moment) (order : Order) (fill : Option Fill) (rest : List Reply) (n : ℕ) → length rest ≤ n
    → length (cons_option (option_map (filled_event at order) fill) rest) ≤ n + 1
match_length s at order None rest n short = omega (arith, short)
match_length s at order (Some fill) rest n short = omega (arith, short)

matches_length : (s : Book) (at : Moment) (orders : List Order) → length (filter_map (match_event s at) orders) ≤ length orders
matches_length s at [] = omega arith
matches_length s at (order ∷ orders) =
    omega (arith, match_length s at order (matched s order) (filter_map (match_event s at) orders) (length orders) (matches_length s at orders))

of_match : (s : Book) (at : Moment) → Answers s 0 (handled s (command.Match at))
of_match s at = record {
  events = match_events s at;
  is = refl;
  none_done = matches_dones s at s.orders;
  few = λ most orders two. omega (arith, orders, matches_length s at s.orders);
  orders = length-map s.orders _ ∙ omega arith;
}

-- at most two events, and an order more or none
of_mark : (s : Book) (at : Moment) (symbol : List ℕ) (bar : _) → Answers s 0 (handled s (command.Mark at symbol bar))
of_mark s at symbol bar = record { events = []; is = refl; none_done = refl; few = λ most orders two. omega arith; orders = omega arith }

of_account : (s : Book) (at : Moment) → Answers s 0 (handled s (command.Account at))
of_account s at = record {
  events = _ ∷ [];
  is = refl;
  none_done = refl;
  few = λ most orders two. omega (arith, two);
  orders = omega arith;
}

of_resting : (s : Book) (at : Moment) (request : Request) (kind : Kind) → Answers s 1 (resting_submit s at request kind)
of_resting s at request kind = record {
  events = _ ∷ [];
  is = refl;
  none_done = refl;
  few = λ most orders two. omega (arith, two);
  orders = length-append s.orders (_ ∷ []);
}

of_market : (s : Book) (at : Moment) (request : Request) (price : ℤ) → Answers s 1 (market_submit s at request price)
of_market s at request price = record {
  events = _ ∷ _ ∷ [];
  is = refl;
  none_done = refl;
  few = λ most orders two. omega (arith, two);
  orders = length-append s.orders (_ ∷ []);
}

of_accepted : (s : Book) (at : Moment) (request : Request) (kind : Kind) (price : ℤ) → Answers s 1 (accepted_submit s at request kind price)
of_accepted s at request Market price =
    either s 1 _ (market_submit s at request price) (resting_submit s at request AtOpen)
    (of_market s at request price) (of_resting s at request AtOpen)
of_accepted s at request Limit price = of_resting s at request Limit
of_accepted s at request Stop price = of_resting s at request Stop
of_accepted s at request AtOpen price = of_resting s at request AtOpen
of_accepted s at request StopLimit price = of_resting s at request StopLimit

of_refused : (s : Book) (at : Moment) (request : Request) (cause : Cause) → Answers s 1 (judged_submit s at request (Some cause))
of_refused s at request cause = record {
  events = _ ∷ [];
  is = refl;
  none_done = refl;
  few = λ most orders two. omega (arith, two);
  orders = length-append s.orders (_ ∷ []);
}

-- a request of a symbol that has a price
of_allowed : (s : Book) (at : Moment) (request : Request) (price : ℤ) → price_of s request.symbol ≡ Some price
    → Answers s 1 (judged_submit s at request None)
of_allowed s at request price priced =
    subst (λ p. Answers s 1 (priced_submit s at request p)) (sym priced) (of_accepted s at request request.kind price)

of_powered : (s : Book) (at : Moment) (request : Request) (price : ℤ) (form power : Bool) → price_of s request.symbol ≡ Some price
    → Answers s 1 (judged_submit s at request (if form then Some PriceForm else if power then None else Some BuyingPower))
of_powered s at request price true power priced = of_refused s at request PriceForm
of_powered s at request price false true priced = of_allowed s at request price priced
of_powered s at request price false false priced = of_refused s at request BuyingPower

of_judged : (s : Book) (at : Moment) (request : Request) (quantity : Bool) (price : Option ℤ) → price_of s request.symbol ≡ price
    → Answers s 1 (judged_submit s at request (if quantity then cause_at_price s request price else Some Quantity))
of_judged s at request false price is = of_refused s at request Quantity
of_judged s at request true None is = of_refused s at request NoPrice
of_judged s at request true (Some price) is = of_powered s at request price (is_unpriced request) _ is

of_submit : (s : Book) (at : Moment) (request : Request) → Answers s 1 (handled s (command.Submit at request))
of_submit s at request = of_judged s at request (is_quantity request.quantity.0) (price_of s request.symbol) refl

-- an update or a cancel: one event, and as many orders
of_event : (s : Book) (r : Reply) → is_done r ≡ false → Answers s 0 (done (r ∷ []) s)
of_event s r event = record {
  events = r ∷ [];
  is = refl;
  none_done = rw event refl;
  few = λ most orders two. omega (arith, two);
  orders = omega arith;
}

of_replaced : (s : Book) (r : Reply) (order : Order) → is_done r ≡ false → Answers s 0 (done (r ∷ []) (with_orders s (replaced s.orders order)))
of_replaced s r order event = record {
  events = r ∷ [];
  is = refl;
  none_done = rw event refl;
  few = λ most orders two. omega (arith, two);
  orders = length-map s.orders _ ∙ omega arith;
}

of_updated : (s : Book) (at : Moment) (id : ℕ) (price : Price) (order : Option Order) → Answers s 0 (update_found s at id price order)
of_updated s at id price None = of_event s _ refl
of_updated s at id price (Some order) =
    either s 0 (not (is_live order.state)) _ _ (of_event s _ refl)
    (either s 0 (not (has_price order.kind) || not (is_price price.0)) _ _ (of_event s _ refl) (of_replaced s _ (at_price price order) refl))

of_canceled : (s : Book) (at : Moment) (id : ℕ) (order : Option Order) → Answers s 0 (cancel_found s at id order)
of_canceled s at id None = of_event s _ refl
of_canceled s at id (Some order) =
    either s 0 (not (is_live order.state)) _ _ (of_event s _ refl) (of_replaced s _ (in_state Canceled order) refl)

pub handled-answers : (s : Book) (c : Command) → Answers s (submits c) (handled s c)
handled-answers s (command.Mark at symbol bar) = of_mark s at symbol bar
handled-answers s (command.Match at) = of_match s at
handled-answers s (command.Submit at request) = of_submit s at request
handled-answers s (command.Update at id price) = of_updated s at id price (order_of s id)
handled-answers s (command.Cancel at id) = of_canceled s at id (order_of s id)
handled-answers s (command.Account at) = of_account s at
