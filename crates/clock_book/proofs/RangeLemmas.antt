-- Each command keeps the numbers of a book in their ranges.
use Rattle.std.proofs.Common.{◌≡◌, ℕ, zero, suc, ◌+◌, ◌≤◌, ◌==◌, ℤ, pos, negsuc, Bool, true, false, cond, List, [], ◌∷◌, ◌++◌, length, drop, map, Option, Some, None, refl, sym, ap, subst, ◌∙◌, arith, true≢false, if◌then◌else◌}
use Rattle.std.specs.Prelude.{unsigned_abs, ⊤, ◌≢◌, ◌<◌, is_some, not, ◌&&◌, ◌||◌, option_map, option_and_then, IfSome}
use Rattle.std.specs.Option.{option_map_or, option_or}
use Rattle.std.specs.List.{AllByRecursion as Each, find, filter_map, cons_option}
use Rattle.std.proofs.lemmas.Bool.Decides.{nat_tests}
use Rattle.std.proofs.lemmas.Int.{ints}
use Rattle.std.proofs.lemmas.List.{length-append, length-map}
use Rattle.std.proofs.lemmas.Option.{none-some}
use Rattle.exchange_hours.specs.Entries.{Entries}
use Rattle.exchange_hours.specs.Sessions.{is_open_at}
use Rattle.lean_fixed.specs.Ranges.{IsAtMost, IsPrice, IsFillPrice, IsQuantity, IsStartingCash, IsLeverage, is_price}
use Rattle.lean_fixed.specs.declared.money.Price.{Price}
use Rattle.lean_fixed.specs.declared.time.Moment.{Moment}
use Rattle.lean_orders.specs.declared.order.Kind.{Kind}
use Rattle.lean_orders.specs.declared.order.Kind.TheVariants.{Market, Limit, Stop, AtOpen, StopLimit}
use Rattle.lean_orders.specs.declared.order.Order.{Order}
use Rattle.lean_orders.specs.declared.order.OrderState.{OrderState}
use Rattle.lean_orders.specs.declared.order.OrderState.TheVariants as state
use Rattle.lean_orders.specs.declared.order.Request.{Request}
use Rattle.lean_orders.specs.declared.event.Cause.{Cause}
use Rattle.lean_orders.specs.declared.event.Cause.TheVariants.{Quantity, NoPrice, PriceForm, BuyingPower, Closed}
use Rattle.lean_orders.specs.declared.event.What.{What}
use Rattle.lean_orders.specs.declared.event.What.TheVariants as what
use Rattle.lean_orders.specs.declared.event.Fill.{Fill}
use Rattle.lean_orders.specs.declared.desk.PriceBar.{PriceBar}
use Rattle.lean_orders.specs.declared.desk.Reply.{Reply}
use Rattle.lean_orders.specs.declared.desk.Reply.TheVariants as reply
use Rattle.lean_orders.specs.declared.desk.Command.{Command}
use Rattle.lean_orders.specs.declared.desk.Command.TheVariants as command
use Rattle.lean_orders.specs.Traded.{IsFill}
use Rattle.trade_costs.specs.declared.costs.Costs.{Costs}
use Rattle.trade_costs.specs.Fees.{IsCosts}
use Rattle.fill_models.specs.FillPrice.{fill_price, side_of}
use Rattle.fill_models.proofs.RangeLemmas.{fill_range, slipped_range, fee_range}
use Rattle.buying_power.specs.Buying.{allows}
use Rattle.portfolio.specs.Symbols.{same_symbol}
use Rattle.portfolio.specs.Sums as sums
use Rattle.portfolio.proofs.StandsLemmas.{AreFills-append}
use Rattle.portfolio.proofs.MarkLemmas.{last_priced, IsPricedMark}
use Rattle.portfolio.proofs.MoneyLemmas.{cash_money, fees_money, realised_money, equity_money, others_money, position_range}
use Rattle.clock_book.specs.Books.{BarMark, Book, new_book, price_mark, price_marks, price_of, order_of, is_live, last_real_bar, bar_to_try, table_bar, opening_of}
use Rattle.clock_book.specs.Submits.{is_quantity, has_price, has_limit, is_priced, is_unpriced, power_of, cause_at_price, submit_cause, next_id, kept_price, kept_limit, order_for, fill_at, market_fill}
use Rattle.clock_book.specs.Matches.{bar_of, is_set_off, set_off, fill_on, after_trigger, matched, in_state, after_match, filled_event, match_event, book_after_match}
use Rattle.clock_book.specs.Handled.{Handled, with_orders, with_fill, refused_submit, resting_submit, market_submit, accepted_submit, priced_submit, judged_submit, handled_submit, handled_match, at_price, replaced, updated_order, update_found, canceled_order, cancel_found, handled_mark, handled_account, handled, after, replies, unknown, refused, done, said}
use Rattle.clock_book.specs.Fitting.{IsPriceBar, IsFitting, HasRoom, most_orders, submits}
use Rattle.clock_book.specs.Seen.{AreNumbered}
use Rattle.clock_book.specs.InRange.{IsPriceIf, IsAccepted, IsAsked, is_refused, IsOrderIf, IsOrder, fills_of_state, filled_orders, IsInRange, HasMoney, HasNumbers, submitted, moment_of, NamesOneOf, IsWhat, IsReply, NamesOrder}
use Rattle.clock_book.proofs.SeenLemmas.{numbered_push, numbered_map, replaced_id, Parted, parted}
use Rattle.clock_book.proofs.LearntLemmas.{matched_live, same_but, tried_id, at_its_id}

-- ---- lists

module _ {X : Type 0} (P : X → Type 0) where
  each-drop : (n : ℕ) (xs : List X) → Each P xs → Each P (drop n xs)
  each-drop zero xs all = all
  each-drop (suc n) [] all = tt
  each-drop (suc n) (x ∷ xs) all = each-drop n xs all.1

  each-map : (f : X → X) → ((x : X) → P x → P (f x)) → (xs : List X) → Each P xs → Each P (map f xs)
  each-map f keeps [] all = tt
  each-map f keeps (x ∷ xs) all = (keeps x all.0, each-map f keeps xs all.1)

  each-append : (xs ys : List X) → Each P xs → Each P ys → Each P (xs ++ ys)
  each-append [] ys all more = more
  each-append (x ∷ xs) ys all more = (all.0, each-append xs ys all.1 more)

each-mid : {X : Type 0} (P : X → Type 0) (front : List X) (x : X) (back : List X) → Each P (front ++ x ∷ back) → P x
each-mid P [] x back all = all.0
each-mid P (y ∷ front) x back all = each-mid P front x back all.1

filled-append : (xs ys : List Order) → filled_orders (xs ++ ys) ≡ filled_orders xs + filled_orders ys
filled-append [] ys = omega arith
filled-append (x ∷ xs) ys = omega (arith, filled-append xs ys)

-- as many were filled as there are, at most
filled-few : (xs : List Order) → filled_orders xs ≤ length xs
filled-few [] = omega arith
filled-few (x ∷ xs) = by x.state (filled-few xs)
  where
    by : (s : OrderState) → filled_orders xs ≤ length xs → fills_of_state s + filled_orders xs ≤ suc (length xs)
    by state.Live later = omega (arith, later)
    by state.Filled later = omega (arith, later)
    by state.Canceled later = omega (arith, later)
    by state.Refused later = omega (arith, later)

-- an id that was given out is that of an order
has-id : (n id : ℕ) (xs : List Order) → AreNumbered n xs → n ≤ id → id < n + length xs → find (λ x. x.id == id) xs ≢ None
has-id n id [] numbered low high none = absurd (omega (arith, low, high))
has-id n id (x ∷ xs) numbered low high none =
    by (x.id == id) refl none (λ e. has-id (n + 1) id xs numbered.1 (grind (arith, nat_tests, numbered.0, low, e)) (omega (arith, high)))
  where
    by : (b : Bool) → (x.id == id) ≡ b → cond b (Some x) (find (λ x. x.id == id) xs) ≡ None
        → ((x.id == id) ≡ false → find (λ x. x.id == id) xs ≢ None) → ⊥
    by true e none later = none-some x (sym none)
    by false e none later = later e none

-- ---- prices

marks_priced : (marks : List BarMark) → Each (λ mark. IsPriceBar mark.bar) marks → sums.AreMarks (map price_mark marks)
marks_priced [] all = tt
marks_priced (mark ∷ marks) all = (let bar : IsPriceBar mark.bar = all.0 in bar.closing, marks_priced marks all.1)

bar_among : (symbol : List ℕ) (marks : List BarMark) → Each (λ mark. IsPriceBar mark.bar) marks → IfSome (last_real_bar symbol marks) IsPriceBar
bar_among symbol [] all = tt
bar_among symbol (mark ∷ marks) all =
    by (last_real_bar symbol marks) (same_symbol symbol mark.symbol && mark.bar.real) (bar_among symbol marks all.1)
  where
    by : (later : Option PriceBar) (b : Bool) → IfSome later IsPriceBar → IfSome (option_or later (if b then Some mark.bar else None)) IsPriceBar
    by (Some bar) b h = h
    by None true h = all.0
    by None false h = tt

-- ---- a match

abbrev IsAcceptedOrder : Order → Type 0
IsAcceptedOrder o = IsAccepted o.kind o.quantity o.price o.limit

abbrev HasPricesIf : Option Price → Type 0
HasPricesIf price = IfSome price (λ price. IsPrice price.0)

-- what a trigger keeps
module _ (P : Order → Type 0) (keeps : (o : Order) → P o → P (record o { triggered = true })) where
  set_off-keeps : (hours : Entries) (o : Order) (bar : PriceBar) → P o → P (set_off hours o bar)
  set_off-keeps hours o bar h = by (is_set_off hours o bar)
    where
      by : (b : Bool) → P (if b then record o { triggered = true } else o)
      by true = keeps o h
      by false = h

  trigger-keeps : (book : Book) (o : Order) → P o → P (after_trigger book o)
  trigger-keeps book o h = by (bar_of book o)
    where
      by : (bar : Option PriceBar) → P (option_map_or (set_off book.hours o) bar o)
      by None = h
      by (Some bar) = set_off-keeps book.hours o bar h

price_if : (b : Bool) (price : Option Price) → IsPriceIf b price → HasPricesIf price
price_if true (Some price) h = h
price_if true None h = absurd h
price_if false None h = tt
price_if false (Some price) h = absurd h

abbrev IsFillOf : Order → Fill → Type 0
IsFillOf o fill = IsFill fill × (fill.symbol ≡ o.symbol)

fill-on-range : (costs : Costs) (hours : Entries) (o : Order) (bar : PriceBar) → IsCosts costs → IsPriceBar bar → IsAcceptedOrder o
    → IfSome (fill_on costs hours o bar) (IsFillOf o)
fill-on-range costs hours o bar c b a = by (opening_of hours bar.start.0)
  where
    one : (price : Option ℤ) → IfSome price IsFillPrice → IfSome (option_map (fill_at costs o.symbol o.quantity.0) price) (IsFillOf o)
    one None h = tt
    one (Some price) h = (record { quantity = a.quantity; price = h; fee = fee_range costs o.quantity.0 c a.quantity }, refl)

    by : (opens : Option ℤ) → IfSome (option_map (fill_at costs o.symbol o.quantity.0)
        (option_and_then (λ opens. fill_price (set_off hours o bar) (table_bar bar) opens costs) opens)) (IsFillOf o)
    by None = tt
    by (Some opens) =
        one (fill_price (set_off hours o bar) (table_bar bar) opens costs)
        (fill_range (set_off hours o bar) (table_bar bar) opens costs
        (record { opening = b.opening; high = b.high; low = b.low; closing = b.closing })
        (set_off-keeps (λ o. HasPricesIf o.price) (λ o h. h) hours o bar (price_if (has_price o.kind) o.price a.price))
        (set_off-keeps (λ o. HasPricesIf o.limit) (λ o h. h) hours o bar (price_if (has_limit o.kind) o.limit a.limit)) c)

live-unrefused : (s : OrderState) → is_live s ≡ true → is_refused s ≡ false
live-unrefused state.Live l = refl
live-unrefused state.Filled l = refl
live-unrefused state.Canceled l = refl
live-unrefused state.Refused l = absurd (true≢false (sym l))

live-unfilled : (s : OrderState) → is_live s ≡ true → fills_of_state s ≡ 0
live-unfilled state.Live l = refl
live-unfilled state.Filled l = absurd (true≢false (sym l))
live-unfilled state.Canceled l = refl
live-unfilled state.Refused l = refl

live-accepted : (most : ℕ) (o : Order) → is_live o.state ≡ true → IsOrder most o → IsAcceptedOrder o
live-accepted most o l h = subst (λ b. IsOrderIf b most o) (live-unrefused o.state l) h

live-matched : (book : Book) (o : Order) (fill : Fill) → matched book o ≡ Some fill → is_live o.state ≡ true
live-matched book o fill e = by (is_live o.state) refl
  where
    by : (b : Bool) → is_live o.state ≡ b → b ≡ true
    by true l = refl
    by false l = absurd (none-some fill (sym (matched_live book o l) ∙ e))

matched-range : (most : ℕ) (book : Book) (o : Order) → IsInRange most book → IsOrder most o → IfSome (matched book o) (IsFillOf o)
matched-range most book o r h = by (is_live o.state) refl
  where
    on : (bar : Option PriceBar) → IfSome bar IsPriceBar → IsAcceptedOrder o → IfSome (option_and_then (fill_on book.costs book.hours o) bar) (IsFillOf o)
    on None b a = tt
    on (Some bar) b a = fill-on-range book.costs book.hours o bar r.costs b a

    by : (b : Bool) → is_live o.state ≡ b → IfSome (option_and_then (fill_on book.costs book.hours o) (if b then bar_to_try book o.symbol else None)) (IsFillOf o)
    by true l =
        on (bar_to_try book o.symbol)
        (bar_among o.symbol (drop book.tried book.marks) (each-drop (λ mark. IsPriceBar mark.bar) book.tried book.marks r.marks))
        (live-accepted most o l h)
    by false l = tt

triggered-range : (most : ℕ) (o : Order) (b : Bool) → IsOrderIf b most o → IsOrderIf b most (record o { triggered = true })
triggered-range most o true h = h
triggered-range most o false h = h

tried-range : (most : ℕ) (book : Book) (o : Order) → IsOrder most o → IsOrder most (after_match book o)
tried-range most book o h = by (matched book o) refl
  where
    by : (f : Option Fill) → matched book o ≡ f → IsOrder most (if is_some f then in_state state.Filled (after_trigger book o) else after_trigger book o)
    by None e = trigger-keeps (λ o. IsOrder most o) (λ o h. triggered-range most o (is_refused o.state) h) book o h
    by (Some fill) e = trigger-keeps IsAcceptedOrder (λ o h. h) book o (live-accepted most o (live-matched book o fill e) h)

tried-count : (book : Book) (xs : List Order) → filled_orders (map (after_match book) xs) ≡ filled_orders xs + length (filter_map (matched book) xs)
tried-count book [] = refl
tried-count book (o ∷ xs) = by (matched book o) refl (tried-count book xs)
  where
    by : (f : Option Fill) → matched book o ≡ f → filled_orders (map (after_match book) xs) ≡ filled_orders xs + length (filter_map (matched book) xs)
        → fills_of_state (if is_some f then in_state state.Filled (after_trigger book o) else after_trigger book o).state
        + filled_orders (map (after_match book) xs)
        ≡ fills_of_state o.state + filled_orders xs + length (cons_option f (filter_map (matched book) xs))
    by None e later =
        let same : fills_of_state (after_trigger book o).state ≡ fills_of_state o.state =
        ap fills_of_state (same_but (λ (o : Order). o.state) (λ o. refl) book o) in
        omega (arith, later, same)
    by (Some fill) e later =
        let none : fills_of_state o.state ≡ 0 = live-unfilled o.state (live-matched book o fill e) in
        omega (arith, later, none)

fills-append : (xs ys : List Fill) → sums.AreFills xs → sums.AreFills ys → sums.AreFills (xs ++ ys)
fills-append [] ys all more = more
fills-append (x ∷ xs) ys all more = (all.0, fills-append xs ys all.1 more)

matched-fills : (most : ℕ) (book : Book) (xs : List Order) → IsInRange most book → Each (λ o. IsOrder most o) xs → sums.AreFills (filter_map (matched book) xs)
matched-fills most book [] r all = tt
matched-fills most book (o ∷ xs) r all = by (matched book o) (matched-range most book o r all.0) (matched-fills most book xs r all.1)
  where
    by : (f : Option Fill) → IfSome f (IsFillOf o) → sums.AreFills (filter_map (matched book) xs) → sums.AreFills (cons_option f (filter_map (matched book) xs))
    by None h later = later
    by (Some fill) h later = (h.0, later)

match-range : (most : ℕ) (book : Book) → IsInRange most book → IsInRange most (book_after_match book)
match-range most book r = record {
  start = r.start;
  costs = r.costs;
  leverage = r.leverage;
  marks = r.marks;
  orders = each-map (λ o. IsOrder most o) (after_match book) (tried-range most book) book.orders r.orders;
  few = subst (λ n. n ≤ most_orders) (sym (length-map book.orders (after_match book))) r.few;
  numbered = numbered_map (after_match book) (tried_id book) 1 book.orders r.numbered;
  fills = fills-append book.fills (filter_map (matched book) book.orders) r.fills (matched-fills most book book.orders r r.orders);
  filled = omega (arith, length-append book.fills (filter_map (matched book) book.orders), tried-count book book.orders, r.filled);
}

-- ---- an order more

push-range : (most : ℕ) (book : Book) (o : Order) → IsInRange most book → length book.orders + 1 ≤ most_orders → o.id ≡ next_id book → IsOrder most o
    → IsInRange most (with_orders book (book.orders ++ o ∷ []))
push-range most book o r room is here = record {
  start = r.start;
  costs = r.costs;
  leverage = r.leverage;
  marks = r.marks;
  orders = each-append (λ o. IsOrder most o) book.orders (o ∷ []) r.orders (here, tt);
  few = omega (arith, length-append book.orders (o ∷ []), room);
  numbered = numbered_push 1 book.orders o r.numbered (omega (arith, is));
  fills = r.fills;
  filled = omega (arith, filled-append book.orders (o ∷ []), r.filled);
}

fill-range : (most : ℕ) (book : Book) (o : Order) (fill : Fill) → IsInRange most book → length book.orders + 1 ≤ most_orders → o.id ≡ next_id book
    → IsOrder most o → fills_of_state o.state ≡ 1 → IsFill fill → IsInRange most (with_fill (with_orders book (book.orders ++ o ∷ [])) fill)
fill-range most book o fill r room is here one f =
    let pushed : IsInRange most (with_orders book (book.orders ++ o ∷ [])) = push-range most book o r room is here in
    record {
      start = r.start;
      costs = r.costs;
      leverage = r.leverage;
      marks = r.marks;
      orders = pushed.orders;
      few = pushed.few;
      numbered = pushed.numbered;
      fills = AreFills-append book.fills fill r.fills f;
      filled = omega (arith, length-append book.fills (fill ∷ []), filled-append book.orders (o ∷ []), r.filled, one);
    }

-- ---- what is asked for

price-range : (n : ℤ) → is_price n ≡ true → IsPrice n
price-range n h = grind (arith, ints, h)

quantity-range : (n : ℤ) → is_quantity n ≡ true → IsQuantity n
quantity-range n h = grind (arith, ints, nat_tests, h)

not-false : (b : Bool) → not b ≡ false → b ≡ true
not-false true h = refl
not-false false h = absurd (true≢false h)

or-false : (a b : Bool) → (a || b) ≡ false → (a ≡ false) × (b ≡ false)
or-false true b h = absurd (true≢false h)
or-false false b h = (refl, h)

kept-priced : (b : Bool) (price : Option Price) → (b && not (is_priced price)) ≡ false → IsPriceIf b (if b then price else None)
kept-priced false price h = tt
kept-priced true None h = absurd (true≢false h)
kept-priced true (Some price) h = price-range price.0 (not-false (is_price price.0) h)

kept-asked : (most : ℕ) (b : Bool) (price : Option Price) → IfSome price (λ price. IsAtMost most price.0)
    → IfSome (if b then price else None) (λ price. IsAtMost most price.0)
kept-asked most true price h = h
kept-asked most false price h = tt

-- a request that has no cause against it
abbrev IsSound : Request → Type 0
IsSound request = (is_quantity request.quantity.0 ≡ true) × (is_unpriced request ≡ false)

no-cause : (book : Book) (request : Request) → submit_cause book request ≡ None → IsSound request
no-cause book request none = by (is_quantity request.quantity.0) refl (price_of book request.symbol) none
  where
    priced : (c : Bool) → is_unpriced request ≡ c → (price : ℤ)
        → (if c then Some PriceForm else if allows (power_of book request price) then None else Some BuyingPower) ≡ None → is_unpriced request ≡ false
    priced true is price e = absurd (none-some PriceForm (sym e))
    priced false is price e = is

    by : (b : Bool) → is_quantity request.quantity.0 ≡ b → (price : Option ℤ) → (if b then cause_at_price book request price else Some Quantity) ≡ None → IsSound request
    by true is (Some price) e = (is, priced (is_unpriced request) refl price e)
    by true is None e = absurd (none-some NoPrice (sym e))
    by false is price e = absurd (none-some Quantity (sym e))

abbrev IsAcceptedAs : Kind → Request → Type 0
IsAcceptedAs kind request = IsAccepted kind request.quantity (kept_price kind request.price) (kept_limit kind request.limit)

sound-accepted : (request : Request) → IsSound request → IsAcceptedAs request.kind request
sound-accepted request sound =
    let parts : ((has_price request.kind && not (is_priced request.price)) ≡ false) × ((has_limit request.kind && not (is_priced request.limit)) ≡ false) =
    or-false (has_price request.kind && not (is_priced request.price)) (has_limit request.kind && not (is_priced request.limit)) sound.1 in
    record {
      quantity = quantity-range request.quantity.0 sound.0;
      price = kept-priced (has_price request.kind) request.price parts.0;
      limit = kept-priced (has_limit request.kind) request.limit parts.1;
    }

-- ---- what a command leaves, and what it replies

-- of a book with so many orders, which has at most some more afterwards; where the order that is meant is there, replies name it
pub record Keeps (most : ℕ) (at : ℤ) (orders more : ℕ) (Names : Type 0) (h : Handled) : Type 0 where
  pub range : IsInRange most h.book
  pub count : length h.book.orders ≤ orders + more
  pub grows : orders ≤ length h.book.orders
  pub replies : Each (λ reply. IsReply at reply) h.replies
  pub named : Names → Each NamesOrder h.replies

module _ (most : ℕ) (book : Book) (r : IsInRange most book) where
  abbrev KeepsAs : ℤ → ℕ → Type 0 → Handled → Type 0
  KeepsAs at more Names h = Keeps most at (length book.orders) more Names h

  -- an order more
  next-id : length book.orders + 1 ≤ most_orders → (1 ≤ next_id book) × (next_id book ≤ most_orders)
  next-id room = (omega arith, omega (arith, room))

  refused-keeps : (at : Moment) (request : Request) (cause : Cause) → length book.orders + 1 ≤ most_orders
      → IsAsked most request.quantity request.price request.limit → KeepsAs at.0 1 ⊤ (refused_submit book at request cause)
  refused-keeps at request cause room asked =
      let o : Order = order_for book at request request.kind state.Refused in
      record {
        range = push-range most book o r room refl
            (record {
              quantity = asked.quantity;
              price = kept-asked most (has_price request.kind) request.price asked.price;
              limit = kept-asked most (has_limit request.kind) request.limit asked.limit;
            });
        count = omega (arith, length-append book.orders (o ∷ []));
        grows = omega (arith, length-append book.orders (o ∷ []));
        replies = (record { at = refl; what = tt }, (tt, tt));
        named = λ names. (record { id = next-id room; symbol = refl }, (tt, tt));
      }

  resting-keeps : (at : Moment) (request : Request) (kind : Kind) → length book.orders + 1 ≤ most_orders → IsAcceptedAs kind request
      → KeepsAs at.0 1 ⊤ (resting_submit book at request kind)
  resting-keeps at request kind room accepted =
      let o : Order = order_for book at request kind state.Live in
      record {
        range = push-range most book o r room refl accepted;
        count = omega (arith, length-append book.orders (o ∷ []));
        grows = omega (arith, length-append book.orders (o ∷ []));
        replies = (record { at = refl; what = accepted }, (tt, tt));
        named = λ names. (record { id = next-id room; symbol = refl }, (tt, tt));
      }

  market-keeps : (at : Moment) (request : Request) (price : ℤ) → length book.orders + 1 ≤ most_orders → IsPrice price → IsAcceptedAs Market request
      → KeepsAs at.0 1 ⊤ (market_submit book at request price)
  market-keeps at request price room priced accepted =
      let o : Order = order_for book at request Market state.Filled in
      let fill : Fill = market_fill book request price in
      let f : IsFill (market_fill book request price) = record {
        quantity = accepted.quantity;
        price = slipped_range book.costs price (side_of request.quantity.0) r.costs priced;
        fee = fee_range book.costs request.quantity.0 r.costs accepted.quantity;
      } in
      record {
        range = fill-range most book o fill r room refl accepted refl f;
        count = omega (arith, length-append book.orders (o ∷ []));
        grows = omega (arith, length-append book.orders (o ∷ []));
        replies = (record { at = refl; what = accepted }, (record { at = refl; what = (f, refl) }, (tt, tt)));
        named = λ names. (record { id = next-id room; symbol = refl }, (record { id = next-id room; symbol = refl }, (tt, tt)));
      }

  accepted-keeps : (at : Moment) (request : Request) (kind : Kind) (price : ℤ) → length book.orders + 1 ≤ most_orders → IsPrice price
      → IsAcceptedAs kind request → KeepsAs at.0 1 ⊤ (accepted_submit book at request kind price)
  accepted-keeps at request Market price room priced accepted = by (is_open_at book.hours at.0)
    where
      by : (b : Bool) → KeepsAs at.0 1 ⊤ (if b then market_submit book at request price else resting_submit book at request AtOpen)
      by true = market-keeps at request price room priced accepted
      by false = resting-keeps at request AtOpen room (record { quantity = accepted.quantity; price = tt; limit = tt })
  accepted-keeps at request Limit price room priced accepted = resting-keeps at request Limit room accepted
  accepted-keeps at request Stop price room priced accepted = resting-keeps at request Stop room accepted
  accepted-keeps at request AtOpen price room priced accepted = resting-keeps at request AtOpen room accepted
  accepted-keeps at request StopLimit price room priced accepted = resting-keeps at request StopLimit room accepted

  -- a book that stays as it is
  stays-keeps : (at : ℤ) (more : ℕ) (Names : Type 0) (said : List Reply) → Each (λ reply. IsReply at reply) said → (Names → Each NamesOrder said)
      → KeepsAs at more Names (record { replies = said; book = book })
  stays-keeps at more Names said replies named =
      record { range = r; count = omega arith; grows = omega arith; replies = replies; named = named }

  submit-keeps : (at : Moment) (request : Request) → length book.orders + 1 ≤ most_orders → IsAsked most request.quantity request.price request.limit
      → KeepsAs at.0 1 ⊤ (handled_submit book at request)
  submit-keeps at request room asked = by (submit_cause book request) refl
    where
      priced : (price : Option ℤ) → IsPricedMark price → IsSound request → KeepsAs at.0 1 ⊤ (priced_submit book at request price)
      priced None p sound = stays-keeps at.0 1 ⊤ (reply.Done ∷ []) (tt, tt) (λ names. (tt, tt))
      priced (Some price) p sound = accepted-keeps at request request.kind price room p (sound-accepted request sound)

      by : (cause : Option Cause) → submit_cause book request ≡ cause → KeepsAs at.0 1 ⊤ (judged_submit book at request cause)
      by (Some cause) e = refused-keeps at request cause room asked
      by None e =
          priced (price_of book request.symbol) (last_priced request.symbol (price_marks book) (marks_priced book.marks r.marks))
          (no-cause book request e)

  -- another order in the place of one
  replaced-range : (o other : Order) → Parted o.id book.orders o → other.id ≡ o.id → IsOrder most other → fills_of_state o.state ≤ fills_of_state other.state
      → IsInRange most (with_orders book (replaced book.orders other))
  replaced-range o other parts same here more =
      let put : Order → Order = λ old. if old.id == other.id then other else old in
      record {
        start = r.start;
        costs = r.costs;
        leverage = r.leverage;
        marks = r.marks;
        orders = each-map (λ o. IsOrder most o) (λ old. if old.id == other.id then other else old) (λ old h. one (old.id == other.id) old h) book.orders r.orders;
        few = subst (λ n. n ≤ most_orders) (sym (length-map book.orders (λ old. if old.id == other.id then other else old))) r.few;
        numbered = numbered_map (λ old. if old.id == other.id then other else old) (replaced_id other) 1 book.orders r.numbered;
        fills = r.fills;
        filled =
            let was : filled_orders book.orders ≡ filled_orders (parts.front ++ o ∷ parts.back) = ap filled_orders parts.split in
            let is : filled_orders (replaced book.orders other) ≡ filled_orders (parts.front ++ other ∷ parts.back) =
            ap filled_orders (parts.replaced other same) in
            omega (
              arith,
              was,
              is,
              filled-append parts.front (o ∷ parts.back),
              filled-append parts.front (other ∷ parts.back),
              more,
              r.filled,
            );
      }
    where
      one : (b : Bool) (old : Order) → IsOrder most old → IsOrder most (if b then other else old)
      one true old h = here
      one false old h = h

  replaced-keeps : (at : Moment) (o other : Order) (happened : What) → Parted o.id book.orders o → other.id ≡ o.id → IsOrder most other
      → fills_of_state o.state ≤ fills_of_state other.state → IsWhat o.symbol happened
      → KeepsAs at.0 0 ((1 ≤ o.id) × (o.id ≤ length book.orders)) (done (said at o.id o.symbol happened ∷ []) (with_orders book (replaced book.orders other)))
  replaced-keeps at o other happened parts same here more said = record {
    range = replaced-range o other parts same here more;
    count = omega (arith, length-map book.orders (λ (old : Order). if old.id == other.id then other else old));
    grows = omega (arith, length-map book.orders (λ (old : Order). if old.id == other.id then other else old));
    replies = (record { at = refl; what = said }, (tt, tt));
    named = λ names. (record { id = (names.0, omega (arith, names.1, r.few)); symbol = refl }, (tt, tt));
  }

  refused-again : (at : Moment) (o : Order) (cause : Cause) → KeepsAs at.0 0 ((1 ≤ o.id) × (o.id ≤ length book.orders)) (refused book at o cause)
  refused-again at o cause =
      stays-keeps at.0 0 ((1 ≤ o.id) × (o.id ≤ length book.orders)) (refused book at o cause).replies (record { at = refl; what = tt }, (tt, tt))
      (λ names. (record { id = (names.0, omega (arith, names.1, r.few)); symbol = refl }, (tt, tt)))

  updated-keeps : (at : Moment) (price : Price) (o : Order) → Parted o.id book.orders o → IsOrder most o
      → KeepsAs at.0 0 ((1 ≤ o.id) × (o.id ≤ length book.orders)) (updated_order book at price o)
  updated-keeps at price o parts h = by (is_live o.state) refl (has_price o.kind) refl (is_price price.0) refl
    where
      accepted : is_live o.state ≡ true → has_price o.kind ≡ true → is_price price.0 ≡ true → IsOrder most (at_price price o)
      accepted l k p =
          let a : IsAcceptedOrder o = live-accepted most o l h in
          subst (λ b. IsOrderIf b most (at_price price o)) (sym (live-unrefused o.state l))
          (record { quantity = a.quantity; price = subst (λ b. IsPriceIf b (Some price)) (sym k) (price-range price.0 p); limit = a.limit })

      by : (l : Bool) → is_live o.state ≡ l → (k : Bool) → has_price o.kind ≡ k → (p : Bool) → is_price price.0 ≡ p
          → KeepsAs at.0 0 ((1 ≤ o.id) × (o.id ≤ length book.orders)) (if not l then refused book at o Closed
          else if not k || not p then refused book at o PriceForm
          else done (said at o.id o.symbol (what.Updated price) ∷ []) (with_orders book (replaced book.orders (at_price price o))))
      by false l k e p is = refused-again at o Closed
      by true l false e p is = refused-again at o PriceForm
      by true l true e false is = refused-again at o PriceForm
      by true l true e true is =
          replaced-keeps at o (at_price price o) (what.Updated price) parts refl (accepted l e is) (omega arith) (price-range price.0 is)

  canceled-keeps : (at : Moment) (o : Order) → Parted o.id book.orders o → IsOrder most o
      → KeepsAs at.0 0 ((1 ≤ o.id) × (o.id ≤ length book.orders)) (canceled_order book at o)
  canceled-keeps at o parts h = by (is_live o.state) refl
    where
      by : (l : Bool) → is_live o.state ≡ l → KeepsAs at.0 0 ((1 ≤ o.id) × (o.id ≤ length book.orders)) (if not l then refused book at o Closed
          else done (said at o.id o.symbol what.Canceled ∷ []) (with_orders book (replaced book.orders (in_state state.Canceled o))))
      by false l = refused-again at o Closed
      by true l =
          let none : fills_of_state o.state ≡ 0 = live-unfilled o.state l in
          replaced-keeps at o (in_state state.Canceled o) what.Canceled parts refl (live-accepted most o l h) (omega (arith, none)) tt

  -- an id
  unknown-keeps : (at : Moment) (id : ℕ) → order_of book id ≡ None
      → KeepsAs at.0 0 ((1 ≤ id) × (id ≤ length book.orders)) (unknown book at id)
  unknown-keeps at id none =
      stays-keeps at.0 0 ((1 ≤ id) × (id ≤ length book.orders)) (unknown book at id).replies (record { at = refl; what = tt }, (tt, tt))
      (λ names. absurd (has-id 1 id book.orders r.numbered names.0 (omega (arith, names.1)) none))

  found-keeps : (at : ℤ) (id : ℕ) (o : Order) (h : Handled) → o.id ≡ id → KeepsAs at 0 ((1 ≤ o.id) × (o.id ≤ length book.orders)) h
      → KeepsAs at 0 ((1 ≤ id) × (id ≤ length book.orders)) h
  found-keeps at id o h is keeps = subst (λ n. KeepsAs at 0 ((1 ≤ n) × (n ≤ length book.orders)) h) is keeps

  order-found : (id : ℕ) (o : Order) → order_of book id ≡ Some o → Parted id book.orders o × IsOrder most o
  order-found id o e =
      let parts : Parted id book.orders o = parted 1 id book.orders o r.numbered e in
      (parts, each-mid (λ o. IsOrder most o) parts.front o parts.back (subst (λ xs. Each (λ o. IsOrder most o) xs) parts.split r.orders))

  update-keeps : (at : Moment) (id : ℕ) (price : Price) (found : Option Order) → order_of book id ≡ found
      → KeepsAs at.0 0 ((1 ≤ id) × (id ≤ length book.orders)) (update_found book at id price found)
  update-keeps at id price None e = unknown-keeps at id e
  update-keeps at id price (Some o) e =
      let found : Parted id book.orders o × IsOrder most o = order-found id o e in
      found-keeps at.0 id o (updated_order book at price o) (found.0).id_is
      (updated-keeps at price o (at_its_id id book.orders o found.0) found.1)

  cancel-keeps : (at : Moment) (id : ℕ) (found : Option Order) → order_of book id ≡ found
      → KeepsAs at.0 0 ((1 ≤ id) × (id ≤ length book.orders)) (cancel_found book at id found)
  cancel-keeps at id None e = unknown-keeps at id e
  cancel-keeps at id (Some o) e =
      let found : Parted id book.orders o × IsOrder most o = order-found id o e in
      found-keeps at.0 id o (canceled_order book at o) (found.0).id_is
      (canceled-keeps at o (at_its_id id book.orders o found.0) found.1)

  -- a match
  match-replies : (at : Moment) (n : ℕ) (xs : List Order) → AreNumbered n xs → 1 ≤ n → n + length xs ≤ most_orders + 1 → Each (λ o. IsOrder most o) xs
      → Each (λ reply. IsReply at.0 reply) (filter_map (match_event book at) xs) × Each NamesOrder (filter_map (match_event book at) xs)
  match-replies at n [] numbered low high all = (tt, tt)
  match-replies at n (o ∷ xs) numbered low high all =
      by (matched book o) (matched-range most book o r all.0) (match-replies at (n + 1) xs numbered.1 (omega arith) (omega (arith, high)) all.1)
    where
      by : (f : Option Fill) → IfSome f (IsFillOf o)
          → Each (λ reply. IsReply at.0 reply) (filter_map (match_event book at) xs) × Each NamesOrder (filter_map (match_event book at) xs)
          → Each (λ reply. IsReply at.0 reply) (cons_option (option_map (filled_event at o) f) (filter_map (match_event book at) xs))
          × Each NamesOrder (cons_option (option_map (filled_event at o) f) (filter_map (match_event book at) xs))
      by None h later = later
      by (Some fill) h later = (
        (record { at = refl; what = h }, later.0),
        (record { id = (omega (arith, numbered.0, low), omega (arith, numbered.0, high)); symbol = refl }, later.1),
      )

  match-keeps : (at : Moment) → KeepsAs at.0 0 ⊤ (handled_match book at)
  match-keeps at =
      let told = match-replies at 1 book.orders r.numbered (omega arith) (omega (arith, r.few)) r.orders in
      record {
        range = match-range most book r;
        count = omega (arith, length-map book.orders (after_match book));
        grows = omega (arith, length-map book.orders (after_match book));
        replies = each-append (λ reply. IsReply at.0 reply) (filter_map (match_event book at) book.orders) (reply.Done ∷ []) told.0 (tt, tt);
        named = λ names. each-append NamesOrder (filter_map (match_event book at) book.orders) (reply.Done ∷ []) told.1 (tt, tt);
      }

  -- the sums
  fills-few : length book.fills ≤ most_orders
  fills-few = omega (arith, r.filled, filled-few book.orders, r.few)

  pub book-money : HasMoney book
  book-money =
      let marked = marks_priced book.marks r.marks in
      record {
        cash = cash_money book.start book.fills r.start r.fills fills-few;
        equity = equity_money book.start book.fills (price_marks book) r.start r.fills marked fills-few;
        fees = fees_money book.fills r.fills fills-few;
        realised = realised_money book.fills r.fills fills-few;
        others = λ symbol. others_money symbol book.fills (price_marks book) r.fills marked fills-few;
        position = λ symbol. position_range symbol book.fills r.fills fills-few;
        few = fills-few;
      }

  account-keeps : (at : ℤ) → KeepsAs at 0 ⊤ (handled_account book)
  account-keeps at =
      let money : HasMoney book = book-money in
      stays-keeps at 0 ⊤ (handled_account book).replies ((money.cash, money.equity), (tt, tt)) (λ names. (tt, (tt, tt)))

  mark-keeps : (at : ℤ) (symbol : List ℕ) (bar : PriceBar) → IsPriceBar bar → KeepsAs at 0 ⊤ (handled_mark book symbol bar)
  mark-keeps at symbol bar priced = record {
    range = record {
      start = r.start;
      costs = r.costs;
      leverage = r.leverage;
      marks = each-append (λ mark. IsPriceBar mark.bar) book.marks (record { symbol = symbol; bar = bar } ∷ []) r.marks (priced, tt);
      orders = r.orders;
      few = r.few;
      numbered = r.numbered;
      fills = r.fills;
      filled = r.filled;
    };
    count = omega arith;
    grows = omega arith;
    replies = (tt, tt);
    named = λ names. (tt, tt);
  }

  -- each command
  command-keeps : (c : Command) → HasNumbers most c → length book.orders + submits c ≤ most_orders
      → KeepsAs (moment_of c) (submits c) (NamesOneOf (length book.orders) c) (handled book c)
  command-keeps (command.Mark at symbol bar) has room = mark-keeps at.0 symbol bar has
  command-keeps (command.Match at) has room = match-keeps at
  command-keeps (command.Submit at request) has room = submit-keeps at request room has
  command-keeps (command.Update at id price) has room = update-keeps at id price (order_of book id) refl
  command-keeps (command.Cancel at id) has room = cancel-keeps at id (order_of book id) refl
  command-keeps (command.Account at) has room = account-keeps at.0

-- ---- all commands

pub new-range : (most : ℕ) (start : ℤ) (costs : Costs) (leverage : ℕ) (hours : Entries) → IsStartingCash start → IsCosts costs → IsLeverage leverage
    → IsInRange most (new_book start costs leverage hours)
new-range most start costs leverage hours s c l = record {
  start = s;
  costs = c;
  leverage = l;
  marks = tt;
  orders = tt;
  few = omega arith;
  numbered = tt;
  fills = tt;
  filled = omega arith;
}

pub commands-range : (most : ℕ) (book : Book) (cs : List Command) → IsInRange most book → Each (λ c. HasNumbers most c) cs
    → length book.orders + submitted cs ≤ most_orders → IsInRange most (after book cs)
unfolding after
commands-range most book [] r has room = r
commands-range most book (c ∷ cs) r has room =
    let first : Keeps most (moment_of c) (length book.orders) (submits c) (NamesOneOf (length book.orders) c) (handled book c) =
    command-keeps most book r c has.0 (omega (arith, room)) in
    commands-range most (handled book c).book cs first.range has.1 (omega (arith, room, first.count))

pub commands-count : (most : ℕ) (book : Book) (cs : List Command) → IsInRange most book → Each (λ c. HasNumbers most c) cs
    → length book.orders + submitted cs ≤ most_orders → length (after book cs).orders ≤ length book.orders + submitted cs
unfolding after
commands-count most book [] r has room = omega arith
commands-count most book (c ∷ cs) r has room =
    let first : Keeps most (moment_of c) (length book.orders) (submits c) (NamesOneOf (length book.orders) c) (handled book c) =
    command-keeps most book r c has.0 (omega (arith, room)) in
    omega (arith, first.count, commands-count most (handled book c).book cs first.range has.1 (omega (arith, room, first.count)))

pub commands-replies : (most : ℕ) (at : ℤ) (book : Book) (cs : List Command) → IsInRange most book → Each (λ c. HasNumbers most c) cs
    → length book.orders + submitted cs ≤ most_orders → Each (λ c. moment_of c ≡ at) cs → Each (λ reply. IsReply at reply) (replies book cs)
unfolding replies
commands-replies most at book [] r has room same = tt
commands-replies most at book (c ∷ cs) r has room same =
    let first : Keeps most (moment_of c) (length book.orders) (submits c) (NamesOneOf (length book.orders) c) (handled book c) =
    command-keeps most book r c has.0 (omega (arith, room)) in
    each-append (λ reply. IsReply at reply) (handled book c).replies (replies (handled book c).book cs)
    (subst (λ m. Each (λ reply. IsReply m reply) (handled book c).replies) same.0 first.replies)
    (commands-replies most at (handled book c).book cs first.range has.1 (omega (arith, room, first.count)) same.1)

names-more : (few many : ℕ) (c : Command) → few ≤ many → NamesOneOf few c → NamesOneOf many c
names-more few many (command.Mark at symbol bar) le names = tt
names-more few many (command.Match at) le names = tt
names-more few many (command.Submit at request) le names = tt
names-more few many (command.Update at id price) le names = (names.0, omega (arith, names.1, le))
names-more few many (command.Cancel at id) le names = (names.0, omega (arith, names.1, le))
names-more few many (command.Account at) le names = tt

pub commands-named : (most n : ℕ) (book : Book) (cs : List Command) → IsInRange most book → Each (λ c. HasNumbers most c) cs
    → length book.orders + submitted cs ≤ most_orders → n ≤ length book.orders → Each (λ c. NamesOneOf n c) cs → Each NamesOrder (replies book cs)
unfolding replies
commands-named most n book [] r has room le names = tt
commands-named most n book (c ∷ cs) r has room le names =
    let first : Keeps most (moment_of c) (length book.orders) (submits c) (NamesOneOf (length book.orders) c) (handled book c) =
    command-keeps most book r c has.0 (omega (arith, room)) in
    each-append NamesOrder (handled book c).replies (replies (handled book c).book cs) (first.named (names-more n (length book.orders) c le names.0))
    (commands-named most n (handled book c).book cs first.range has.1 (omega (arith, room, first.count)) (omega (arith, le, first.grows)) names.1)

-- ---- a command that fits, whatever it asks for

at-most-more : (m n : ℕ) (z : ℤ) → m ≤ n → IsAtMost m z → IsAtMost n z
at-most-more m n z le h = (omega (arith, ints, le, h), omega (arith, ints, le, h))

if-more : (m n : ℕ) (price : Option Price) → m ≤ n → IfSome price (λ price. IsAtMost m price.0) → IfSome price (λ price. IsAtMost n price.0)
if-more m n None le h = tt
if-more m n (Some price) le h = at-most-more m n price.0 le h

order-more : (m n : ℕ) (o : Order) (b : Bool) → m ≤ n → IsOrderIf b m o → IsOrderIf b n o
order-more m n o true le h = record {
  quantity = at-most-more m n o.quantity.0 le h.quantity;
  price = if-more m n o.price le h.price;
  limit = if-more m n o.limit le h.limit;
}
order-more m n o false le h = h

orders-more : (m n : ℕ) (xs : List Order) → m ≤ n → Each (λ o. IsOrder m o) xs → Each (λ o. IsOrder n o) xs
orders-more m n [] le all = tt
orders-more m n (x ∷ xs) le all = (order-more m n x (is_refused x.state) le all.0, orders-more m n xs le all.1)

range-more : (m n : ℕ) (book : Book) → m ≤ n → IsInRange m book → IsInRange n book
range-more m n book le r = record {
  start = r.start;
  costs = r.costs;
  leverage = r.leverage;
  marks = r.marks;
  orders = orders-more m n book.orders le r.orders;
  few = r.few;
  numbered = r.numbered;
  fills = r.fills;
  filled = r.filled;
}

-- a number within which all that a command asks for lies
abbrev size_if : Option Price → ℕ
size_if None = 0
size_if (Some price) = unsigned_abs price.0

abbrev size_of : Command → ℕ
size_of (command.Mark at symbol bar) = 0
size_of (command.Match at) = 0
size_of (command.Submit at request) = unsigned_abs request.quantity.0 + size_if request.price + size_if request.limit
size_of (command.Update at id price) = 0
size_of (command.Cancel at id) = 0
size_of (command.Account at) = 0

within-size : (most : ℕ) (z : ℤ) → unsigned_abs z ≤ most → IsAtMost most z
within-size most (pos n) le = (omega (arith, ints), omega (arith, ints, le))
within-size most (negsuc n) le = (omega (arith, ints, le), omega (arith, ints))

within-size-if : (most : ℕ) (price : Option Price) → size_if price ≤ most → IfSome price (λ price. IsAtMost most price.0)
within-size-if most None le = tt
within-size-if most (Some price) le = within-size most price.0 le

fitting-numbers : (most : ℕ) (c : Command) → IsFitting c → size_of c ≤ most → HasNumbers most c
fitting-numbers most (command.Mark at symbol bar) fits le = fits.1
fitting-numbers most (command.Match at) fits le = tt
fitting-numbers most (command.Submit at request) fits le = record {
  quantity = within-size most request.quantity.0 (omega (arith, le));
  price = within-size-if most request.price (omega (arith, le));
  limit = within-size-if most request.limit (omega (arith, le));
}
fitting-numbers most (command.Update at id price) fits le = tt
fitting-numbers most (command.Cancel at id) fits le = tt
fitting-numbers most (command.Account at) fits le = tt

room-has : (orders : ℕ) (c : Command) → orders ≤ most_orders → HasRoom orders c → orders + submits c ≤ most_orders
room-has orders (command.Mark at symbol bar) few has = omega (arith, few)
room-has orders (command.Match at) few has = omega (arith, few)
room-has orders (command.Submit at request) few has = omega (arith, has refl)
room-has orders (command.Update at id price) few has = omega (arith, few)
room-has orders (command.Cancel at id) few has = omega (arith, few)
room-has orders (command.Account at) few has = omega (arith, few)

pub fitting-replies : (most : ℕ) (book : Book) (c : Command) → IsInRange most book → IsFitting c → HasRoom (length book.orders) c
    → Each (λ reply. IsReply (moment_of c) reply) (handled book c).replies
fitting-replies most book c r fits has =
    let keeps : Keeps (most + size_of c) (moment_of c) (length book.orders) (submits c) (NamesOneOf (length book.orders) c) (handled book c) =
    command-keeps (most + size_of c) book (range-more most (most + size_of c) book (omega arith) r) c
    (fitting-numbers (most + size_of c) c fits (omega arith)) (room-has (length book.orders) c r.few has) in
    keeps.replies
