-- What is learnt of each command is what can be seen of the book after it.
use Rattle.std.proofs.Common.{◌≡◌, ℕ, ◌+◌, ◌≤◌, ◌==◌, ℤ, Bool, true, false, List, [], ◌∷◌, ◌++◌, map, Option, Some, None, refl, sym, ap, subst, ◌∙◌, arith, append-nil, append_assoc}
use Rattle.std.specs.Prelude.{is_some, not, ◌||◌, if◌then◌else◌, option_map, option_and_then}
use Rattle.std.specs.Option.{option_map_or}
use Rattle.std.specs.List.{fold, filter_map, cons_option}
use Rattle.std.proofs.lemmas.List.{map-append}
use Rattle.std.proofs.lemmas.List.Sums.{fold-append}
use Rattle.lean_fixed.specs.Ranges.{is_price}
use Rattle.lean_fixed.specs.declared.money.Price.{Price}
use Rattle.lean_fixed.specs.declared.time.Moment.{Moment}
use Rattle.exchange_hours.specs.Sessions.{is_open_at}
use Rattle.lean_orders.specs.declared.order.Kind.{Kind}
use Rattle.lean_orders.specs.declared.order.Kind.TheVariants.{Market, Limit, Stop, AtOpen, StopLimit}
use Rattle.lean_orders.specs.declared.order.Order.{Order}
use Rattle.lean_orders.specs.declared.order.OrderState.TheVariants as state
use Rattle.lean_orders.specs.declared.order.Request.{Request}
use Rattle.lean_orders.specs.declared.order.Resting.{Resting}
use Rattle.lean_orders.specs.declared.event.Cause.{Cause}
use Rattle.lean_orders.specs.declared.event.Cause.TheVariants.{PriceForm, Closed}
use Rattle.lean_orders.specs.declared.event.What.TheVariants as what
use Rattle.lean_orders.specs.declared.event.Fill.{Fill}
use Rattle.lean_orders.specs.declared.desk.PriceBar.{PriceBar}
use Rattle.lean_orders.specs.declared.desk.Reply.{Reply}
use Rattle.lean_orders.specs.declared.desk.Reply.TheVariants as reply
use Rattle.lean_orders.specs.declared.desk.Command.{Command}
use Rattle.lean_orders.specs.declared.desk.Command.TheVariants as command
use Rattle.portfolio.specs.Sums as sums
use Rattle.clock_book.specs.Books.{Book, price_mark, price_marks, price_of, order_of, is_live, bar_to_try}
use Rattle.clock_book.specs.Submits.{has_price, next_id, order_for, submit_cause}
use Rattle.clock_book.specs.Matches.{bar_of, is_set_off, set_off, fill_on, after_trigger, matched, in_state, after_match, filled_event, match_event}
use Rattle.clock_book.specs.Handled.{Handled, refused_submit, resting_submit, market_submit, accepted_submit, priced_submit, judged_submit, handled_match, at_price, replaced, updated_order, update_found, canceled_order, cancel_found, handled, after, replies, refused, done, said, with_orders}
use Rattle.clock_book.specs.Seen.{resting_of, live_of, Seen, seen_of, without_id, learnt, given_out, AreNumbered}
use Rattle.clock_book.proofs.SeenLemmas.{learnt-all_given, less_differs, more_differs, itself, numbered_push, numbered_map, replaced_id, live_append, live_first, without-append, without-first, lacks, Parted, parted}

-- what a handled command tells, and the ids after it
abbrev pub IsTold : Seen → Handled → Type 0
IsTold seen handled = fold learnt seen handled.replies ≡ seen_of handled.book

abbrev with_live : Seen → List Resting → Seen
with_live seen live = record seen { live = live }

-- ---- a match

module _ (fill : Order → Option Fill) (first : Order → Order) (at : Moment) (start : ℤ) (marks : List sums.Mark)
    (lives : (o : Order) → is_live o.state ≡ false → fill o ≡ None)
    (same : (o : Order) → resting_of (first o) ≡ resting_of o)
    (stays : (o : Order) → (first o).state ≡ o.state) where
  abbrev event_of : Order → Option Reply
  event_of o = option_map (filled_event at o) (fill o)

  abbrev tried : Order → Order
  tried o = if is_some (fill o) then in_state state.Filled (first o) else first o

  abbrev seen : List Fill → List Resting → Seen
  seen fills live = record { start = start; marks = marks; fills = fills; live = live }

  abbrev Below : ℕ → List Resting → Type 0
  Below n before = (id : ℕ) → n ≤ id → without_id id before ≡ before

  abbrev Learns : List Fill → List Resting → List Order → Type 0
  Learns fills before xs =
      fold learnt (seen fills (before ++ live_of xs)) (filter_map event_of xs)
      ≡ seen (fills ++ filter_map fill xs) (before ++ live_of (map tried xs))

  below_more : (n : ℕ) (before : List Resting) (r : Resting) → r.id ≡ n → Below n before → Below (n + 1) (before ++ r ∷ [])
  below_more n before r is below id more =
      without-append id before (r ∷ [])
      ∙ (λ i. below id (omega (arith, more)) i ++ without-first id r [] false (less_differs r.id id (omega (arith, is, more))) i)

  -- an order that is filled
  learns-fill : (n : ℕ) (fills : List Fill) (before : List Resting) (o : Order) (xs : List Order) (found : Fill) → is_live o.state ≡ true → fill o ≡ Some found
      → AreNumbered n (o ∷ xs) → Below n before → Learns (fills ++ found ∷ []) before xs → Learns fills before (o ∷ xs)
  learns-fill n fills before o xs found lives filled numbered below later =
      let without : without_id o.id (before ++ live_of (o ∷ xs)) ≡ before ++ live_of xs =
      ap (λ live. without_id o.id (before ++ live)) (live_first o xs true lives)
      ∙ without-append o.id before (resting_of o ∷ live_of xs)
      ∙ (λ i. below o.id (omega (arith, numbered.0)) i ++ without-first o.id (resting_of o) (live_of xs) true (itself o.id) i)
      ∙ ap (λ live. before ++ live) (lacks (n + 1) o.id xs numbered.1 (λ k l m. more_differs k o.id (omega (arith, numbered.0, l)))) in
      ap (λ f. fold learnt (seen fills (before ++ live_of (o ∷ xs))) (cons_option (option_map (filled_event at o) f) (filter_map event_of xs))) filled
      ∙ ap (λ live. fold learnt (seen (fills ++ found ∷ []) live) (filter_map event_of xs)) without
      ∙ later
      ∙ (λ i. seen ((append_assoc fills (found ∷ []) (filter_map fill xs) ∙ ap (λ f. fills ++ cons_option f (filter_map fill xs)) (sym filled)) i)
      (before ++ (sym (live_first (tried o) (map tried xs) false (ap (λ f. is_live (if is_some f then in_state state.Filled (first o) else first o).state) filled))) i))

  -- one that stays live
  learns-live : (fills : List Fill) (before : List Resting) (o : Order) (xs : List Order) → is_live o.state ≡ true → fill o ≡ None
      → Learns fills (before ++ resting_of o ∷ []) xs → Learns fills before (o ∷ xs)
  learns-live fills before o xs lives none later =
      let stands : is_live (tried o).state ≡ true =
      ap (λ f. is_live (if is_some f then in_state state.Filled (first o) else first o).state) none ∙ ap is_live (stays o) ∙ lives in
      let is : resting_of (tried o) ≡ resting_of o = ap (λ f. resting_of (if is_some f then in_state state.Filled (first o) else first o)) none ∙ same o in
      ap (λ f. fold learnt (seen fills (before ++ live_of (o ∷ xs))) (cons_option (option_map (filled_event at o) f) (filter_map event_of xs))) none
      ∙ ap (λ live. fold learnt (seen fills live) (filter_map event_of xs))
      (ap (λ live. before ++ live) (live_first o xs true lives) ∙ sym (append_assoc before (resting_of o ∷ []) (live_of xs)))
      ∙ later
      ∙ (λ i. seen (fills ++ cons_option (sym none i) (filter_map fill xs))
      ((append_assoc before (resting_of o ∷ []) (live_of (map tried xs)) ∙ ap (λ r. before ++ r ∷ live_of (map tried xs)) (sym is)
      ∙ ap (λ live. before ++ live) (sym (live_first (tried o) (map tried xs) true stands))) i))

  -- one that is not live
  learns-dead : (fills : List Fill) (before : List Resting) (o : Order) (xs : List Order) → is_live o.state ≡ false → fill o ≡ None
      → Learns fills before xs → Learns fills before (o ∷ xs)
  learns-dead fills before o xs dead none later =
      let stands : is_live (tried o).state ≡ false =
      ap (λ f. is_live (if is_some f then in_state state.Filled (first o) else first o).state) none ∙ ap is_live (stays o) ∙ dead in
      ap (λ f. fold learnt (seen fills (before ++ live_of (o ∷ xs))) (cons_option (option_map (filled_event at o) f) (filter_map event_of xs))) none
      ∙ ap (λ live. fold learnt (seen fills (before ++ live)) (filter_map event_of xs)) (live_first o xs false dead)
      ∙ later
      ∙ (λ i. seen (fills ++ cons_option (sym none i) (filter_map fill xs)) (before ++ sym (live_first (tried o) (map tried xs) false stands) i))

  learns : (n : ℕ) (fills : List Fill) (before : List Resting) (xs : List Order) → AreNumbered n xs → Below n before → Learns fills before xs
  learns n fills before [] numbered below = λ i. seen (sym (append-nil fills) i) (before ++ [])
  learns n fills before (o ∷ xs) numbered below =
      by (is_live o.state) refl (fill o) refl
      (λ found. learns (n + 1) (fills ++ found ∷ []) before xs numbered.1 (λ id more. below id (omega (arith, more))))
      (learns (n + 1) fills (before ++ resting_of o ∷ []) xs numbered.1 (below_more n before (resting_of o) numbered.0 below))
      (learns (n + 1) fills before xs numbered.1 (λ id more. below id (omega (arith, more))))
    where
      by : (b : Bool) → is_live o.state ≡ b → (f : Option Fill) → fill o ≡ f → ((found : Fill) → Learns (fills ++ found ∷ []) before xs)
          → Learns fills (before ++ resting_of o ∷ []) xs → Learns fills before xs → Learns fills before (o ∷ xs)
      by true l (Some found) e filled live dead = learns-fill n fills before o xs found l e numbered below (filled found)
      by true l None e filled live dead = learns-live fills before o xs l e live
      by false l f e filled live dead = learns-dead fills before o xs l (lives o l) dead

pub matched_live : (book : Book) (o : Order) → is_live o.state ≡ false → matched book o ≡ None
matched_live book o dead = ap (λ b. option_and_then (fill_on book.costs book.hours o) (if b then bar_to_try book o.symbol else None)) dead

-- a trigger changes no more than the trigger
pub same_but : {A : Type 0} (f : Order → A) → ((o : Order) → f (record o { triggered = true }) ≡ f o) → (book : Book) (o : Order) → f (after_trigger book o) ≡ f o
same_but f same book o = by (bar_of book o)
  where
    by : (bar : Option PriceBar) → f (option_map_or (set_off book.hours o) bar o) ≡ f o
    by None = refl
    by (Some bar) = one (is_set_off book.hours o bar)
      where
        one : (b : Bool) → f (if b then record o { triggered = true } else o) ≡ f o
        one true = same o
        one false = refl

pub tried_id : (book : Book) (o : Order) → (after_match book o).id ≡ o.id
tried_id book o = by (is_some (matched book o)) ∙ same_but (λ (o : Order). o.id) (λ o. refl) book o
  where
    by : (b : Bool) → (if b then in_state state.Filled (after_trigger book o) else after_trigger book o).id ≡ (after_trigger book o).id
    by true = refl
    by false = refl

match-told : (book : Book) (at : Moment) → AreNumbered 1 book.orders → IsTold (seen_of book) (handled_match book at)
match-told book at numbered =
    fold-append learnt (seen_of book) (filter_map (match_event book at) book.orders) (reply.Done ∷ [])
    ∙ learns (matched book) (after_trigger book) at book.start (price_marks book) (matched_live book)
    (same_but resting_of (λ o. refl) book) (same_but (λ (o : Order). o.state) (λ o. refl) book) 1 book.fills [] book.orders numbered (λ id more. refl)

-- ---- an order more

abbrev pushed : Book → Order → List Order
pushed book o = book.orders ++ o ∷ []

push_dead : (book : Book) (o : Order) → is_live o.state ≡ false → live_of (pushed book o) ≡ live_of book.orders
push_dead book o dead = live_append book.orders (o ∷ []) ∙ ap (λ live. live_of book.orders ++ live) (live_first o [] false dead) ∙ append-nil (live_of book.orders)

refused-told : (book : Book) (at : Moment) (request : Request) (cause : Cause) → IsTold (seen_of book) (refused_submit book at request cause)
refused-told book at request cause = ap (with_live (seen_of book)) (sym (push_dead book (order_for book at request request.kind state.Refused) refl))

resting-told : (book : Book) (at : Moment) (request : Request) (kind : Kind) → IsTold (seen_of book) (resting_submit book at request kind)
resting-told book at request kind = ap (with_live (seen_of book)) (sym (live_append book.orders (order_for book at request kind state.Live ∷ [])))

market-told : (book : Book) (at : Moment) (request : Request) (price : ℤ) → AreNumbered 1 book.orders → IsTold (seen_of book) (market_submit book at request price)
market-told book at request price numbered =
    let order : Order = order_for book at request Market state.Live in
    ap (λ live. record (seen_of (market_submit book at request price).book) { live = live })
    (without-append (next_id book) (live_of book.orders) (resting_of order ∷ [])
    ∙ (λ i. lacks 1 (next_id book) book.orders numbered (λ k l m. less_differs k (next_id book) (omega (arith, m))) i
    ++ without-first (next_id book) (resting_of order) [] true (itself (next_id book)) i)
    ∙ append-nil (live_of book.orders)
    ∙ sym (push_dead book (order_for book at request Market state.Filled) refl))

accepted-told : (book : Book) (at : Moment) (request : Request) (kind : Kind) (price : ℤ) → AreNumbered 1 book.orders
    → IsTold (seen_of book) (accepted_submit book at request kind price)
accepted-told book at request Market price numbered = by (is_open_at book.hours at.0)
  where
    by : (b : Bool) → IsTold (seen_of book) (if b then market_submit book at request price else resting_submit book at request AtOpen)
    by true = market-told book at request price numbered
    by false = resting-told book at request AtOpen
accepted-told book at request Limit price numbered = resting-told book at request Limit
accepted-told book at request Stop price numbered = resting-told book at request Stop
accepted-told book at request AtOpen price numbered = resting-told book at request AtOpen
accepted-told book at request StopLimit price numbered = resting-told book at request StopLimit

priced-told : (book : Book) (at : Moment) (request : Request) (price : Option ℤ) → AreNumbered 1 book.orders → IsTold (seen_of book) (priced_submit book at request price)
priced-told book at request None numbered = refl
priced-told book at request (Some price) numbered = accepted-told book at request request.kind price numbered

judged-told : (book : Book) (at : Moment) (request : Request) (cause : Option Cause) → AreNumbered 1 book.orders → IsTold (seen_of book) (judged_submit book at request cause)
judged-told book at request (Some cause) numbered = refused-told book at request cause
judged-told book at request None numbered = priced-told book at request (price_of book request.symbol) numbered

-- ---- another order in the place of one

updated-told : (book : Book) (at : Moment) (price : Price) (o : Order) → Parted o.id book.orders o → IsTold (seen_of book) (updated_order book at price o)
updated-told book at price o parts = by (not (is_live o.state)) (not (has_price o.kind) || not (is_price price.0))
  where
    live : live_of book.orders ≡ live_of (replaced book.orders (at_price price o))
    live =
        ap live_of parts.split ∙ live_append parts.front (o ∷ parts.back)
        ∙ ap (λ later. live_of parts.front ++ later) (live_append (o ∷ []) parts.back)
        ∙ ap (λ here. live_of parts.front ++ (here ++ live_of parts.back)) (same (is_live o.state) refl)
        ∙ ap (λ later. live_of parts.front ++ later) (sym (live_append (at_price price o ∷ []) parts.back))
        ∙ sym (live_append parts.front (at_price price o ∷ parts.back))
        ∙ ap live_of (sym (parts.replaced (at_price price o) refl))
      where
        same : (b : Bool) → is_live o.state ≡ b → live_of (o ∷ []) ≡ live_of (at_price price o ∷ [])
        same b e = live_first o [] b e ∙ sym (live_first (at_price price o) [] b e)

    by : (closed wrong : Bool) → IsTold (seen_of book) (if closed then refused book at o Closed else if wrong then refused book at o PriceForm
        else done (said at o.id o.symbol (what.Updated price) ∷ []) (with_orders book (replaced book.orders (at_price price o))))
    by true wrong = refl
    by false true = refl
    by false false = ap (with_live (seen_of book)) live

canceled-told : (book : Book) (at : Moment) (o : Order) → Parted o.id book.orders o → IsTold (seen_of book) (canceled_order book at o)
canceled-told book at o parts = by (is_live o.state) refl
  where
    live : is_live o.state ≡ true → without_id o.id (live_of book.orders) ≡ live_of (replaced book.orders (in_state state.Canceled o))
    live lives =
        ap (λ orders. without_id o.id (live_of orders)) parts.split
        ∙ ap (without_id o.id) (live_append parts.front (o ∷ parts.back) ∙ ap (λ later. live_of parts.front ++ later) (live_first o parts.back true lives))
        ∙ without-append o.id (live_of parts.front) (resting_of o ∷ live_of parts.back)
        ∙ (λ i. parts.before i ++ (without-first o.id (resting_of o) (live_of parts.back) true (itself o.id) ∙ parts.behind) i)
        ∙ ap (λ later. live_of parts.front ++ later) (sym (live_first (in_state state.Canceled o) parts.back false refl))
        ∙ sym (live_append parts.front (in_state state.Canceled o ∷ parts.back))
        ∙ ap live_of (sym (parts.replaced (in_state state.Canceled o) refl))

    by : (b : Bool) → is_live o.state ≡ b → IsTold (seen_of book) (if not b then refused book at o Closed
        else done (said at o.id o.symbol what.Canceled ∷ []) (with_orders book (replaced book.orders (in_state state.Canceled o))))
    by true lives = ap (with_live (seen_of book)) (live lives)
    by false dead = refl

-- the order that is found by its id
pub at_its_id : (id : ℕ) (orders : List Order) (o : Order) → Parted id orders o → Parted o.id orders o
at_its_id id orders o parts = subst (λ k. Parted k orders o) (sym parts.id_is) parts

update-told : (book : Book) (at : Moment) (id : ℕ) (price : Price) (found : Option Order) → AreNumbered 1 book.orders → order_of book id ≡ found
    → IsTold (seen_of book) (update_found book at id price found)
update-told book at id price None numbered e = refl
update-told book at id price (Some o) numbered e = updated-told book at price o (at_its_id id book.orders o (parted 1 id book.orders o numbered e))

cancel-told : (book : Book) (at : Moment) (id : ℕ) (found : Option Order) → AreNumbered 1 book.orders → order_of book id ≡ found
    → IsTold (seen_of book) (cancel_found book at id found)
cancel-told book at id None numbered e = refl
cancel-told book at id (Some o) numbered e = canceled-told book at o (at_its_id id book.orders o (parted 1 id book.orders o numbered e))

-- ---- each command

command-told : (book : Book) (c : Command) → AreNumbered 1 book.orders → IsTold (given_out (seen_of book) c) (handled book c)
command-told book (command.Mark at symbol bar) numbered =
    ap (λ marks. record (seen_of book) { marks = marks }) (sym (map-append price_mark book.marks (record { symbol = symbol; bar = bar } ∷ [])))
command-told book (command.Match at) numbered = match-told book at numbered
command-told book (command.Submit at request) numbered = judged-told book at request (submit_cause book request) numbered
command-told book (command.Update at id price) numbered = update-told book at id price (order_of book id) numbered refl
command-told book (command.Cancel at id) numbered = cancel-told book at id (order_of book id) numbered refl
command-told book (command.Account at) numbered = refl

-- ---- ids

pushed_ids : (book : Book) (o : Order) → AreNumbered 1 book.orders → o.id ≡ next_id book → AreNumbered 1 (pushed book o)
pushed_ids book o numbered is = numbered_push 1 book.orders o numbered (omega (arith, is))

accepted_ids : (book : Book) (at : Moment) (request : Request) (kind : Kind) (price : ℤ) → AreNumbered 1 book.orders
    → AreNumbered 1 (accepted_submit book at request kind price).book.orders
accepted_ids book at request Market price numbered = by (is_open_at book.hours at.0)
  where
    by : (b : Bool) → AreNumbered 1 (if b then market_submit book at request price else resting_submit book at request AtOpen).book.orders
    by true = pushed_ids book (order_for book at request Market state.Filled) numbered refl
    by false = pushed_ids book (order_for book at request AtOpen state.Live) numbered refl
accepted_ids book at request Limit price numbered = pushed_ids book (order_for book at request Limit state.Live) numbered refl
accepted_ids book at request Stop price numbered = pushed_ids book (order_for book at request Stop state.Live) numbered refl
accepted_ids book at request AtOpen price numbered = pushed_ids book (order_for book at request AtOpen state.Live) numbered refl
accepted_ids book at request StopLimit price numbered = pushed_ids book (order_for book at request StopLimit state.Live) numbered refl

judged_ids : (book : Book) (at : Moment) (request : Request) (cause : Option Cause) (price : Option ℤ) → price ≡ price_of book request.symbol
    → AreNumbered 1 book.orders → AreNumbered 1 (judged_submit book at request cause).book.orders
judged_ids book at request (Some cause) price is numbered = pushed_ids book (order_for book at request request.kind state.Refused) numbered refl
judged_ids book at request None price is numbered = subst (λ p. AreNumbered 1 (priced_submit book at request p).book.orders) is (by price)
  where
    by : (p : Option ℤ) → AreNumbered 1 (priced_submit book at request p).book.orders
    by None = numbered
    by (Some z) = accepted_ids book at request request.kind z numbered

replaced_ids : (book : Book) (other : Order) → AreNumbered 1 book.orders → AreNumbered 1 (replaced book.orders other)
replaced_ids book other numbered = numbered_map (λ old. if old.id == other.id then other else old) (replaced_id other) 1 book.orders numbered

update_ids : (book : Book) (at : Moment) (id : ℕ) (price : Price) (found : Option Order) → AreNumbered 1 book.orders
    → AreNumbered 1 (update_found book at id price found).book.orders
update_ids book at id price None numbered = numbered
update_ids book at id price (Some o) numbered = by (not (is_live o.state)) (not (has_price o.kind) || not (is_price price.0))
  where
    by : (closed wrong : Bool) → AreNumbered 1 (if closed then refused book at o Closed else if wrong then refused book at o PriceForm
        else done (said at o.id o.symbol (what.Updated price) ∷ []) (with_orders book (replaced book.orders (at_price price o)))).book.orders
    by true wrong = numbered
    by false true = numbered
    by false false = replaced_ids book (at_price price o) numbered

cancel_ids : (book : Book) (at : Moment) (id : ℕ) (found : Option Order) → AreNumbered 1 book.orders
    → AreNumbered 1 (cancel_found book at id found).book.orders
cancel_ids book at id None numbered = numbered
cancel_ids book at id (Some o) numbered = by (not (is_live o.state))
  where
    by : (closed : Bool) → AreNumbered 1 (if closed then refused book at o Closed
        else done (said at o.id o.symbol what.Canceled ∷ []) (with_orders book (replaced book.orders (in_state state.Canceled o)))).book.orders
    by true = numbered
    by false = replaced_ids book (in_state state.Canceled o) numbered

pub command_ids : (book : Book) (c : Command) → AreNumbered 1 book.orders → AreNumbered 1 (handled book c).book.orders
command_ids book (command.Mark at symbol bar) numbered = numbered
command_ids book (command.Match at) numbered = numbered_map (after_match book) (tried_id book) 1 book.orders numbered
command_ids book (command.Submit at request) numbered = judged_ids book at request (submit_cause book request) (price_of book request.symbol) refl numbered
command_ids book (command.Update at id price) numbered = update_ids book at id price (order_of book id) numbered
command_ids book (command.Cancel at id) numbered = cancel_ids book at id (order_of book id) numbered
command_ids book (command.Account at) numbered = numbered

-- ---- all commands

pub commands_ids : (book : Book) (cs : List Command) → AreNumbered 1 book.orders → AreNumbered 1 (after book cs).orders
unfolding after
commands_ids book [] numbered = numbered
commands_ids book (c ∷ cs) numbered = commands_ids (handled book c).book cs (command_ids book c numbered)

pub commands-told : (book : Book) (cs : List Command) → AreNumbered 1 book.orders
    → fold learnt (fold given_out (seen_of book) cs) (replies book cs) ≡ seen_of (after book cs)
unfolding after replies
commands-told book [] numbered = refl
commands-told book (c ∷ cs) numbered =
    fold-append learnt (fold given_out (given_out (seen_of book) c) cs) (handled book c).replies (replies (handled book c).book cs)
    ∙ ap (λ seen. fold learnt seen (replies (handled book c).book cs))
    (learnt-all_given (given_out (seen_of book) c) cs (handled book c).replies ∙ ap (λ seen. fold given_out seen cs) (command-told book c numbered))
    ∙ commands-told (handled book c).book cs (command_ids book c numbered)
