-- How replies are told apart, and that a book ends what it replies to each command with one `Done`.
use Rattle.std.proofs.Common.{◌≡◌, ℕ, zero, suc, ◌+◌, ◌≤◌, ℤ, Bool, true, false, if◌then◌else◌, List, [], ◌∷◌, ◌++◌, length, Option, Some, None, refl, ap, sym, ◌∙◌, arith, not, ◌||◌, append_assoc}
use Rattle.std.specs.List.{filter_map, cons_option}
use Rattle.std.specs.Option.{option_map}
use Rattle.lean_fixed.specs.Ranges.{is_price}
use Rattle.lean_fixed.specs.declared.money.Price.{Price}
use Rattle.lean_fixed.specs.declared.time.Moment.{Moment}
use Rattle.exchange_hours.specs.Sessions.{is_open_at}
use Rattle.lean_orders.specs.declared.desk.Reply.{Reply}
use Rattle.lean_orders.specs.declared.desk.Reply.TheVariants as reply
use Rattle.lean_orders.specs.declared.desk.Command.{Command}
use Rattle.lean_orders.specs.declared.desk.Command.TheVariants as command
use Rattle.lean_orders.specs.declared.order.Kind.{Kind}
use Rattle.lean_orders.specs.declared.order.Kind.TheVariants.{Market, Limit, Stop, AtOpen, StopLimit}
use Rattle.lean_orders.specs.declared.order.Request.{Request}
use Rattle.lean_orders.specs.declared.order.Order.{Order}
use Rattle.lean_orders.specs.declared.event.Cause.{Cause}
use Rattle.lean_orders.specs.declared.event.Fill.{Fill}
use Rattle.clock_steps.specs.Runs.{IsFrontOf}
use Rattle.clock_book.specs.Books.{Book, price_of, order_of, is_live}
use Rattle.clock_book.specs.Submits.{has_price, submit_cause}
use Rattle.clock_book.specs.Matches.{matched, filled_event, match_event, match_events}
use Rattle.clock_book.specs.Handled.{Handled, handled, done, market_submit, resting_submit, accepted_submit, priced_submit, judged_submit, updated_order, update_found, canceled_order, cancel_found, after, replies}
use Rattle.clock_pipeline.specs.Replies.{dones, awaited, replies_to, replies_behind}

-- ---- telling replies apart

pub dones-append : (xs ys : List Reply) → dones (xs ++ ys) ≡ dones xs + dones ys
dones-append [] ys = omega arith
dones-append (reply.Event e ∷ xs) ys = dones-append xs ys
dones-append (reply.Account a b ∷ xs) ys = dones-append xs ys
dones-append (reply.Done ∷ xs) ys = omega (arith, dones-append xs ys)

pub replies-split : (n : ℕ) (rs : List Reply) → rs ≡ replies_to n rs ++ replies_behind n rs
replies-split zero rs = refl
replies-split (suc n) [] = refl
replies-split (suc n) (r ∷ rs) = ap (λ l. r ∷ l) (replies-split (awaited n r) rs)

-- where `Done` of so many commands is among some replies
pub dones-behind : (n : ℕ) (rs : List Reply) → n ≤ dones rs → dones (replies_behind n rs) + n ≡ dones rs
dones-behind zero rs enough = omega arith
dones-behind (suc n) [] enough = absurd (omega (arith, enough))
dones-behind (suc n) (reply.Event e ∷ rs) enough = dones-behind (suc n) rs enough
dones-behind (suc n) (reply.Account a b ∷ rs) enough = dones-behind (suc n) rs enough
dones-behind (suc n) (reply.Done ∷ rs) enough = omega (arith, dones-behind n rs (omega (arith, enough)))

-- those that come later are not among them
pub replies_to-more : (n : ℕ) (rs more : List Reply) → n ≤ dones rs → replies_to n (rs ++ more) ≡ replies_to n rs
replies_to-more zero rs more enough = refl
replies_to-more (suc n) [] more enough = absurd (omega (arith, enough))
replies_to-more (suc n) (reply.Event e ∷ rs) more enough = ap (λ l. reply.Event e ∷ l) (replies_to-more (suc n) rs more enough)
replies_to-more (suc n) (reply.Account a b ∷ rs) more enough = ap (λ l. reply.Account a b ∷ l) (replies_to-more (suc n) rs more enough)
replies_to-more (suc n) (reply.Done ∷ rs) more enough = ap (λ l. reply.Done ∷ l) (replies_to-more n rs more (omega (arith, enough)))

pub replies_behind-more : (n : ℕ) (rs more : List Reply) → n ≤ dones rs → replies_behind n (rs ++ more) ≡ replies_behind n rs ++ more
replies_behind-more zero rs more enough = refl
replies_behind-more (suc n) [] more enough = absurd (omega (arith, enough))
replies_behind-more (suc n) (reply.Event e ∷ rs) more enough = replies_behind-more (suc n) rs more enough
replies_behind-more (suc n) (reply.Account a b ∷ rs) more enough = replies_behind-more (suc n) rs more enough
replies_behind-more (suc n) (reply.Done ∷ rs) more enough = replies_behind-more n rs more (omega (arith, enough))

-- ---- what a book replies to one command

-- some replies that end no command, and then `Done`
pub record Answers (h : Handled) : Type 0 where
  pub events : List Reply
  pub is : h.replies ≡ events ++ reply.Done ∷ []
  pub none_done : dones events ≡ 0

matches_dones : (s : Book) (at : Moment) (orders : List Order) → dones (filter_map (match_event s at) orders) ≡ 0
matches_dones s at [] = refl
matches_dones s at (order ∷ orders) = by (matched s order) (filter_map (match_event s at) orders) (matches_dones s at orders)
  where
    by : (fill : Option Fill) (rest : List Reply) → dones rest ≡ 0 → dones (cons_option (option_map (filled_event at order) fill) rest) ≡ 0
    by None rest none = none
    by (Some fill) rest none = none

none-said : (book : Book) → Answers (done [] book)
none-said book = record { events = []; is = refl; none_done = refl }

either : (b : Bool) (x y : Handled) → Answers x → Answers y → Answers (if b then x else y)
either true x y p q = p
either false x y p q = q

of_resting : (s : Book) (at : Moment) (request : Request) (kind : Kind) → Answers (resting_submit s at request kind)
of_resting s at request kind = record { events = _ ∷ []; is = refl; none_done = refl }

of_market : (s : Book) (at : Moment) (request : Request) (price : ℤ) → Answers (market_submit s at request price)
of_market s at request price = record { events = _ ∷ _ ∷ []; is = refl; none_done = refl }

of_accepted : (s : Book) (at : Moment) (request : Request) (kind : Kind) (price : ℤ) → Answers (accepted_submit s at request kind price)
of_accepted s at request Market price =
    either (is_open_at s.hours at.0) (market_submit s at request price) (resting_submit s at request AtOpen)
    (of_market s at request price) (of_resting s at request AtOpen)
of_accepted s at request Limit price = of_resting s at request Limit
of_accepted s at request Stop price = of_resting s at request Stop
of_accepted s at request AtOpen price = of_resting s at request AtOpen
of_accepted s at request StopLimit price = of_resting s at request StopLimit

of_priced : (s : Book) (at : Moment) (request : Request) (price : Option ℤ) → Answers (priced_submit s at request price)
of_priced s at request None = none-said s
of_priced s at request (Some price) = of_accepted s at request request.kind price

of_judged : (s : Book) (at : Moment) (request : Request) (cause : Option Cause) → Answers (judged_submit s at request cause)
of_judged s at request None = of_priced s at request (price_of s request.symbol)
of_judged s at request (Some cause) = record { events = _ ∷ []; is = refl; none_done = refl }

of_updated : (s : Book) (at : Moment) (price : Price) (order : Order) → Answers (updated_order s at price order)
of_updated s at price order =
    either (not (is_live order.state)) _ _ (record { events = _ ∷ []; is = refl; none_done = refl })
    (either (not (has_price order.kind) || not (is_price price.0)) _ _
    (record { events = _ ∷ []; is = refl; none_done = refl }) (record { events = _ ∷ []; is = refl; none_done = refl }))

of_update : (s : Book) (at : Moment) (id : ℕ) (price : Price) (found : Option Order) → Answers (update_found s at id price found)
of_update s at id price None = record { events = _ ∷ []; is = refl; none_done = refl }
of_update s at id price (Some order) = of_updated s at price order

of_canceled : (s : Book) (at : Moment) (order : Order) → Answers (canceled_order s at order)
of_canceled s at order =
    either (not (is_live order.state)) _ _
    (record { events = _ ∷ []; is = refl; none_done = refl }) (record { events = _ ∷ []; is = refl; none_done = refl })

of_cancel : (s : Book) (at : Moment) (id : ℕ) (found : Option Order) → Answers (cancel_found s at id found)
of_cancel s at id None = record { events = _ ∷ []; is = refl; none_done = refl }
of_cancel s at id (Some order) = of_canceled s at order

pub handled-answers : (s : Book) (c : Command) → Answers (handled s c)
handled-answers s (command.Mark at symbol bar) = record { events = []; is = refl; none_done = refl }
handled-answers s (command.Match at) = record { events = match_events s at; is = refl; none_done = matches_dones s at s.orders }
handled-answers s (command.Submit at request) = of_judged s at request (submit_cause s request)
handled-answers s (command.Update at id price) = of_update s at id price (order_of s id)
handled-answers s (command.Cancel at id) = of_cancel s at id (order_of s id)
handled-answers s (command.Account at) = record { events = _ ∷ []; is = refl; none_done = refl }

-- ---- what it replies to some commands

pub after-append : (s : Book) (cs ds : List Command) → after s (cs ++ ds) ≡ after (after s cs) ds
unfolding after
after-append s [] ds = refl
after-append s (c ∷ cs) ds = after-append (handled s c).book cs ds

pub replies-append : (s : Book) (cs ds : List Command) → replies s (cs ++ ds) ≡ replies s cs ++ replies (after s cs) ds
unfolding after replies
replies-append s [] ds = refl
replies-append s (c ∷ cs) ds =
    ap (λ x. (handled s c).replies ++ x) (replies-append (handled s c).book cs ds)
    ∙ sym (append_assoc (handled s c).replies (replies (handled s c).book cs) (replies (after (handled s c).book cs) ds))

pub after-none : (s : Book) → after s [] ≡ s
unfolding after
after-none s = refl

pub replies-none : (s : Book) → replies s [] ≡ []
unfolding replies
replies-none s = refl

pub dones-replies : (s : Book) (cs : List Command) → dones (replies s cs) ≡ length cs
unfolding replies
dones-replies s [] = refl
dones-replies s (c ∷ cs) =
    let a = handled-answers s c in
    omega (arith, dones-append (handled s c).replies (replies (handled s c).book cs), ap dones a.is, dones-append a.events (reply.Done ∷ []), a.none_done, dones-replies (handled s c).book cs)

-- the replies to more commands go on where those to the first end
pub replies-front : (s : Book) (cs ds : List Command) → IsFrontOf cs ds → IsFrontOf (replies s cs) (replies s ds)
replies-front s cs ds front = record { rest = replies (after s cs) front.rest; is = ap (replies s) front.is ∙ replies-append s cs front.rest }

one-told : (n : ℕ) (events more : List Reply) → dones events ≡ 0
    → replies_to (suc n) (events ++ reply.Done ∷ more) ≡ events ++ reply.Done ∷ replies_to n more
one-told n [] more none = refl
one-told n (reply.Event e ∷ events) more none = ap (λ l. reply.Event e ∷ l) (one-told n events more none)
one-told n (reply.Account a b ∷ events) more none = ap (λ l. reply.Account a b ∷ l) (one-told n events more none)
one-told n (reply.Done ∷ events) more none = absurd (omega (arith, none))

-- of the replies to some commands and others behind them those to the first are told apart
pub replies_to-book : (s : Book) (cs : List Command) (more : List Reply) → replies_to (length cs) (replies s cs ++ more) ≡ replies s cs
unfolding replies
replies_to-book s [] more = refl
replies_to-book s (c ∷ cs) more =
    let a = handled-answers s c in
    let rest = replies (handled s c).book cs in
    ap (λ l. replies_to (suc (length cs)) ((l ++ rest) ++ more)) a.is
    ∙ ap (replies_to (suc (length cs))) (append_assoc (a.events ++ reply.Done ∷ []) rest more ∙ append_assoc a.events (reply.Done ∷ []) (rest ++ more))
    ∙ one-told (length cs) a.events (rest ++ more) a.none_done
    ∙ ap (λ l. a.events ++ reply.Done ∷ l) (replies_to-book (handled s c).book cs more)
    ∙ sym (append_assoc a.events (reply.Done ∷ []) rest)
    ∙ ap (λ l. l ++ rest) (sym a.is)
