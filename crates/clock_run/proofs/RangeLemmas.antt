-- Every part of a moment leaves a state whose numbers are in their ranges, and prints lines whose numbers are.
use Rattle.std.proofs.Common.{◌≡◌, ℕ, suc, ◌+◌, ◌-◌, ◌/◌, ◌≤◌, ℤ, pos, negsuc, List, [], ◌∷◌, ◌++◌, Bool, true, false, cond, refl, sym, subst, arith, true≢false, if◌then◌else◌}
use Rattle.std.specs.Prelude.{Option, Some, None, IfSome, is_some, map, filter, flat_map, find, length, take, nat_le, int_div, unsigned_abs, option_map, option_and_then}
use Rattle.std.specs.Option.{option_to_list}
use Rattle.std.specs.List.{AllByRecursion as Each, filter_map}
use Rattle.std.proofs.lemmas.Int.{ints}
use Rattle.std.proofs.lemmas.Bool.Decides.{nat_tests}
use Rattle.std.proofs.Math.Nat.{div-le_self}
use Rattle.lean_fixed.specs.Moments.{first_moment}
use Rattle.lean_fixed.specs.Ranges.{IsAtMost, IsPrice, IsFillPrice, IsMoney, IsMoment, IsPrintedMoment, IsWindow}
use Rattle.lean_fixed.specs.declared.money.Price.{Price}
use Rattle.lean_fixed.specs.declared.time.Moment.{Moment}
use Rattle.lean_fixed.specs.declared.time.Window.{Window}
use Rattle.lean_io.specs.Told.{Files}
use Rattle.lean_items.specs.declared.bar.Bar.{Bar}
use Rattle.lean_items.specs.declared.coarse_row.CoarseRow.{CoarseRow}
use Rattle.lean_items.specs.Fits.{is_bar_in_range}
use Rattle.exchange_hours.specs.Entries.{Entries}
use Rattle.exchange_hours.specs.Grid.{is_closing}
use Rattle.exchange_hours.specs.Sessions.{moment, LieInDays}
use Rattle.lean_orders.specs.declared.order.Kind.{Kind}
use Rattle.lean_orders.specs.declared.order.Kind.TheVariants.{Market, Limit, Stop, AtOpen, StopLimit}
use Rattle.lean_orders.specs.declared.order.Order.{Order}
use Rattle.lean_orders.specs.declared.order.Resting.{Resting}
use Rattle.lean_orders.specs.declared.event.OrderEvent.{OrderEvent}
use Rattle.lean_orders.specs.declared.event.What.{What}
use Rattle.lean_orders.specs.declared.event.What.TheVariants as what
use Rattle.lean_orders.specs.declared.desk.Command.{Command}
use Rattle.lean_orders.specs.declared.desk.Command.TheVariants as command
use Rattle.lean_orders.specs.declared.desk.Reply.{Reply}
use Rattle.lean_orders.specs.declared.desk.Reply.TheVariants as reply
use Rattle.report_lines.specs.EventLines as lines
use Rattle.portfolio.specs.Symbols.{same_symbol}
use Rattle.rule_lang.specs.declared.view.View.{View}
use Rattle.rule_lang.specs.Tree.{Tree}
use Rattle.rule_lang.specs.Values.{number_in, truth_in}
use Rattle.rule_strategy.specs.declared.asking.RuleView.{RuleView}
use Rattle.rule_strategy.specs.declared.rule.Action.{Action}
use Rattle.rule_strategy.specs.declared.rule.Action.TheVariants as act
use Rattle.rule_strategy.specs.declared.rule.Rule.{Rule}
use Rattle.rule_strategy.specs.declared.universe.UniversePlan.{UniversePlan}
use Rattle.rule_strategy.specs.RuleTexts.{rests_at_price}
use Rattle.rule_strategy.specs.Asked as asks
use Rattle.rule_strategy.specs.Validity.{IsPlan}
use Rattle.consolidators.specs.Pushed.{AreNumbers}
use Rattle.consolidators.proofs.InRange.{numbers_told}
use Rattle.universe_rules.specs.Selected.{selected}
use Rattle.universe_state.specs.Choice.{additions, room}
use Rattle.clock_steps.specs.Runs.{Ran, rests, before}
use Rattle.clock_feeds.specs.Bars.{ends_at}
use Rattle.clock_feeds.specs.Known.{feed_bars}
use Rattle.clock_feeds.proofs.KeyLemmas.{known_sound}
use Rattle.clock_book.specs.Books.{is_live}
use Rattle.clock_book.specs.Fitting.{IsPriceBar, IsFitting, most_orders, submits}
use Rattle.clock_book.specs.Handled.{after, replies}
use Rattle.clock_book.specs.Seen.{Seen, seen_of, resting_of, live_of, AreNumbered}
use Rattle.clock_book.specs.Submits.{has_price, has_limit}
use Rattle.clock_book.specs.InRange.{IsInRange, IsPriceIf, HasNumbers, submitted, moment_of, NamesOneOf, IsWhat, IsWhatOf, IsReply, IsOfOrder, NamesOrder}
use Rattle.clock_book.proofs.RangeLemmas.{new-range, commands-range, commands-count, commands-replies, commands-named}
use Rattle.clock_run.specs.Lines.{Line, Halt, added, removed}
use Rattle.clock_run.specs.Known.{Known, World}
use Rattle.clock_run.specs.States.{Setup, State, symbol_of, actives, opening}
use Rattle.clock_run.specs.Histories.{History, history_of, histories, bar_now, fresh_bar}
use Rattle.clock_run.specs.Requests.{orders_seen, rule_view, is_for, fresh_requests, security_requests, requests}
use Rattle.clock_run.specs.Moments as moments
use Rattle.clock_run.specs.Moments.{Part, in_turn, chosen, selection, told, equity_told, served, price_bar, mark_of, marks, prices, most_requests, traded, trading, closing, is_done_with, removals, refusal, parts_of}
use Rattle.clock_run.specs.Reports as reports
use Rattle.clock_run.specs.Reports.{step_of}
use Rattle.clock_run.specs.Worlds.{world_of}
use Rattle.clock_run.specs.InRange.{HasBarsInRange, IsWorldInRange, IsStateInRange, IsLineInRange, IsLineAt, StaysInRange}
use Rattle.clock_run.proofs.EachLemmas.{each-through, each-append, each-take, each-if, each-map, each-flat_map}
use Rattle.clock_run.proofs.NumberLemmas.{room-left}
use Rattle.clock_run.proofs.OrderlyLemmas.{run-keeps}

-- ---- lists

module _ {X : Type 0} (P : X → Type 0) where
  each-filter : (p : X → Bool) (xs : List X) → Each P xs → Each P (filter p xs)
  each-filter p [] all = tt
  each-filter p (x ∷ xs) all = by (p x) (each-filter p xs all.1)
    where
      by : (b : Bool) → Each P (filter p xs) → Each P (cond b (x ∷ filter p xs) (filter p xs))
      by true later = (all.0, later)
      by false later = later

  each-found : (p : X → Bool) (xs : List X) → Each P xs → IfSome (find p xs) P
  each-found p [] all = tt
  each-found p (x ∷ xs) all = by (p x) (each-found p xs all.1)
    where
      by : (b : Bool) → IfSome (find p xs) P → IfSome (cond b (Some x) (find p xs)) P
      by true later = all.0
      by false later = later

  each-of-map : {Y : Type 0} (f : Y → X) (ys : List Y) → Each (λ y. P (f y)) ys → Each P (map f ys)
  each-of-map f [] all = tt
  each-of-map f (y ∷ ys) all = (all.0, each-of-map f ys all.1)

-- ---- what the rules ask for

-- a command of a rule: its numbers, its moment, and the order that it is about
pub record IsFromRule (t orders : ℕ) (c : Command) : Type 0 where
  pub numbers : HasNumbers asks.most_asked c
  pub at : moment_of c ≡ pos t
  pub names : NamesOneOf orders c

abbrev IsSmall : ℤ → Type 0
IsSmall n = unsigned_abs n ≤ asks.most_asked

small-most : (n : ℤ) → IsSmall n → IsAtMost asks.most_asked n
small-most (pos n) small = (omega (arith, ints), omega (arith, ints, small))
small-most (negsuc n) small = (omega (arith, ints, small), omega (arith, ints))

cut-most : (n : ℤ) → IsSmall n → IsAtMost asks.most_asked (int_div n (pos 10000))
cut-most (pos n) small =
    let less : n / 10000 ≤ n = div-le_self n 10000 in
    (omega (arith, ints), omega (arith, ints, less, small))
cut-most (negsuc n) small =
    let less : suc n / 10000 ≤ suc n = div-le_self (suc n) 10000 in
    (omega (arith, ints, less, small), omega (arith, ints))

asked-small : (view : View) (tree : Tree) → IfSome (asks.asked view tree) IsSmall
unfolding asks.asked
asked-small view tree = by (number_in view tree)
  where
    one : (b : Bool) (n : ℤ) → nat_le (unsigned_abs n) asks.most_asked ≡ b → IfSome (if b then Some n else None) IsSmall
    one true n is = grind (arith, nat_tests, is)
    one false n is = tt

    by : (n : Option ℤ) → IfSome (option_and_then asks.if_asked n) IsSmall
    by None = tt
    by (Some n) = one (nat_le (unsigned_abs n) asks.most_asked) n refl

abbrev IsSmallIf : Option Price → Type 0
IsSmallIf price = IfSome price (λ price. IsAtMost asks.most_asked price.0)

asked-if-small : (view : View) (tree : Option Tree) → IfSome (asks.asked_if view tree) IsSmallIf
asked-if-small view None = tt
asked-if-small view (Some tree) = by (asks.asked view tree) (asked-small view tree)
  where
    by : (n : Option ℤ) → IfSome n IsSmall → IfSome (option_map (λ n. Some (asks.price_of n)) n) IsSmallIf
    by None small = tt
    by (Some n) small = small-most n small

submits-asked : (t orders : ℕ) (at : Moment) (symbol : List ℕ) (kind : Kind) (quantity : Option ℤ) (price limit : Option (Option Price)) → at.0 ≡ pos t
    → IfSome quantity IsSmall → IfSome price IsSmallIf → IfSome limit IsSmallIf
    → Each (λ c. IsFromRule t orders c) (asks.submits at symbol kind quantity price limit)
submits-asked t orders at symbol kind None price limit is q p l = tt
submits-asked t orders at symbol kind (Some quantity) None limit is q p l = tt
submits-asked t orders at symbol kind (Some quantity) (Some price) None is q p l = tt
submits-asked t orders at symbol kind (Some quantity) (Some price) (Some limit) is q p l = (
  record { numbers = record { quantity = cut-most quantity q; price = p; limit = l }; at = is; names = tt },
  tt,
)

abbrev IsOneOf : ℕ → Resting → Type 0
IsOneOf orders order = (1 ≤ order.id) × (order.id ≤ orders)

updates-asked : (t orders : ℕ) (at : Moment) (price : Option ℤ) (live : List Resting) → at.0 ≡ pos t → Each (λ order. IsOneOf orders order) live
    → Each (λ c. IsFromRule t orders c) (asks.updates at price live)
updates-asked t orders at None live is all = tt
updates-asked t orders at (Some price) live is all =
    each-of-map (λ c. IsFromRule t orders c) (λ order. command.Update at order.id (asks.price_of price)) (filter (λ order. rests_at_price order.kind) live)
    (each-through (filter (λ order. rests_at_price order.kind) live) (λ order one. record { numbers = tt; at = is; names = one })
    (each-filter (λ order. IsOneOf orders order) (λ order. rests_at_price order.kind) live all))

cancels-asked : (t orders : ℕ) (at : Moment) (live : List Resting) → at.0 ≡ pos t → Each (λ order. IsOneOf orders order) live
    → Each (λ c. IsFromRule t orders c) (asks.cancels at live)
cancels-asked t orders at live is all =
    each-of-map (λ c. IsFromRule t orders c) (λ order. command.Cancel at order.id) live
    (each-through live (λ order one. record { numbers = tt; at = is; names = one }) all)

action-asked : (t orders : ℕ) (action : Action) (symbol : List ℕ) (view : RuleView) (live : List Resting) → view.when.at.0 ≡ pos t
    → Each (λ order. IsOneOf orders order) live → Each (λ c. IsFromRule t orders c) (asks.asked_by action symbol view live)
action-asked t orders (act.Order kind quantity price limit) symbol view live is all =
    submits-asked t orders view.when.at symbol kind (asks.asked view.quantity quantity) (asks.asked_if view.price price) (asks.asked_if view.limit limit) is
    (asked-small view.quantity quantity) (asked-if-small view.price price) (asked-if-small view.limit limit)
action-asked t orders (act.Update price) symbol view live is all = updates-asked t orders view.when.at (asks.asked view.price price) live is all
action-asked t orders act.Cancel symbol view live is all = cancels-asked t orders view.when.at live is all

rule-asked : (t orders : ℕ) (rule : Rule) (symbol : List ℕ) (view : RuleView) (live : List Resting) → view.when.at.0 ≡ pos t
    → Each (λ order. IsOneOf orders order) live → Each (λ c. IsFromRule t orders c) (asks.requests_of rule symbol view live)
unfolding asks.requests_of
rule-asked t orders rule symbol view live is all =
    each-if (λ c. IsFromRule t orders c) (truth_in view.when rule.when) (asks.asked_by rule.action symbol view live)
    (action-asked t orders rule.action symbol view live is all)

fresh-asked : (t orders : ℕ) (rule : Rule) (seen : Seen) (h : History) (bar : Option Bar) → Each (λ order. IsOneOf orders order) seen.live
    → Each (λ c. IsFromRule t orders c) (fresh_requests rule seen t h bar)
fresh-asked t orders rule seen h None all = tt
fresh-asked t orders rule seen h (Some bar) all =
    each-if (λ c. IsFromRule t orders c) (is_for rule.symbol h.symbol)
    (asks.requests_of rule h.symbol (rule_view seen t h bar rule) (orders_seen seen h.symbol))
    (rule-asked t orders rule h.symbol (rule_view seen t h bar rule) (orders_seen seen h.symbol) refl
    (each-filter (λ order. IsOneOf orders order) (λ order. same_symbol h.symbol order.symbol) seen.live all))

all-asked : (t orders : ℕ) (rules : List Rule) (seen : Seen) (hs : List History) → Each (λ order. IsOneOf orders order) seen.live
    → Each (λ c. IsFromRule t orders c) (requests rules seen t hs)
unfolding requests
all-asked t orders rules seen hs all =
    each-flat_map (λ c. IsFromRule t orders c) (λ rule. flat_map (security_requests seen t rule) hs) rules
    (λ rule. each-flat_map (λ c. IsFromRule t orders c) (security_requests seen t rule) hs
    (λ h. fresh-asked t orders rule seen h (fresh_bar t h) all))

-- the live orders of a book are among its orders
ids-within : (n most : ℕ) (xs : List Order) → AreNumbered n xs → 1 ≤ n → n + length xs ≤ most + 1 → Each (λ o. (1 ≤ o.id) × (o.id ≤ most)) xs
ids-within n most [] numbered low high = tt
ids-within n most (x ∷ xs) numbered low high = (
  (omega (arith, numbered.0, low), omega (arith, numbered.0, high)),
  ids-within (n + 1) most xs numbered.1 (omega arith) (omega (arith, high)),
)

live-within : (xs : List Order) → AreNumbered 1 xs → Each (λ order. IsOneOf (length xs) order) (live_of xs)
live-within xs numbered =
    each-of-map (λ order. IsOneOf (length xs) order) resting_of (filter (λ order. is_live order.state) xs)
    (each-filter (λ o. (1 ≤ o.id) × (o.id ≤ length xs)) (λ order. is_live order.state) xs
    (ids-within 1 (length xs) xs numbered (omega arith) (omega arith)))

submits-few : (c : Command) → submits c ≤ 1
submits-few (command.Mark at symbol bar) = omega arith
submits-few (command.Match at) = omega arith
submits-few (command.Submit at request) = omega arith
submits-few (command.Update at id price) = omega arith
submits-few (command.Cancel at id) = omega arith
submits-few (command.Account at) = omega arith

submitted-few : (cs : List Command) → submitted cs ≤ length cs
submitted-few [] = omega arith
submitted-few (c ∷ cs) = omega (arith, submits-few c, submitted-few cs)

-- ---- marks

bar-range : (bar : Bar) → is_bar_in_range bar ≡ true → IsPriceBar (price_bar bar)
bar-range bar h =
    let numbers : AreNumbers bar = numbers_told bar h in
    record {
      start = numbers.start;
      «end» = numbers.end;
      opening = numbers.prices.opening;
      high = numbers.prices.high;
      low = numbers.prices.low;
      closing = numbers.prices.closing;
      volume = numbers.volume;
    }

marks-given : (t orders : ℕ) (known : Known) (hs : List History) → HasBarsInRange known
    → Each (λ h. Each (λ bar. is_bar_in_range bar ≡ true) h.bars) hs → Each (λ c. IsFromRule t orders c) (marks t hs)
marks-given t orders known [] has all = tt
marks-given t orders known (h ∷ hs) has all =
    each-append (λ c. IsFromRule t orders c) (option_to_list (mark_of t h)) (marks t hs)
    (by (bar_now t h) (each-found (λ bar. is_bar_in_range bar ≡ true) (ends_at t) h.bars all.0))
    (marks-given t orders known hs has all.1)
  where
    by : (bar : Option Bar) → IfSome bar (λ bar. is_bar_in_range bar ≡ true)
        → Each (λ c. IsFromRule t orders c) (option_to_list (option_map (λ bar. command.Mark (moment t) h.symbol (price_bar bar)) bar))
    by None in_range = tt
    by (Some bar) in_range = (record { numbers = bar-range bar in_range; at = refl; names = tt }, tt)

histories-given : (known : Known) (s : State) → HasBarsInRange known → Each (λ h. Each (λ bar. is_bar_in_range bar ≡ true) h.bars) (histories known s)
histories-given known s has =
    each-map (λ h. Each (λ bar. is_bar_in_range bar ≡ true) h.bars) (history_of known) s.securities (λ security. has security.key)

no-submits : (t : ℕ) (hs : List History) → submitted (marks t hs ++ command.Match (moment t) ∷ []) ≡ 0
no-submits t [] = omega arith
no-submits t (h ∷ hs) = by (bar_now t h) (no-submits t hs)
  where
    by : (bar : Option Bar) → submitted (marks t hs ++ command.Match (moment t) ∷ []) ≡ 0
        → submitted ((option_to_list (option_map (λ bar. command.Mark (moment t) h.symbol (price_bar bar)) bar) ++ marks t hs) ++ command.Match (moment t) ∷ []) ≡ 0
    by None later = later
    by (Some bar) later = omega (arith, later)

-- ---- what is told

equities-told : (at : ℤ) (rs : List Reply) → Each (λ r. IsReply at r) rs → Each (λ equity. IsMoney equity) (filter_map equity_told rs)
equities-told at [] all = tt
equities-told at (reply.Event event ∷ rs) all = equities-told at rs all.1
equities-told at (reply.Account cash equity ∷ rs) all = ((all.0).1, equities-told at rs all.1)
equities-told at (reply.Done ∷ rs) all = equities-told at rs all.1

wider : (price : Price) → IsPrice price.0 → IsFillPrice price.0
wider price p = (p.0, omega (arith, ints, p.1))

kind-prices : (kind : Kind) (price limit : Option Price) → IsPriceIf (has_price kind) price → IsPriceIf (has_limit kind) limit → lines.HasPricesOf kind price limit
kind-prices Market None None p l = tt
kind-prices Market None (Some limit) p l = absurd l
kind-prices Market (Some price) limit p l = absurd p
kind-prices AtOpen None None p l = tt
kind-prices AtOpen None (Some limit) p l = absurd l
kind-prices AtOpen (Some price) limit p l = absurd p
kind-prices Limit None limit p l = absurd p
kind-prices Limit (Some price) None p l = wider price p
kind-prices Limit (Some price) (Some limit) p l = absurd l
kind-prices Stop None limit p l = absurd p
kind-prices Stop (Some price) None p l = wider price p
kind-prices Stop (Some price) (Some limit) p l = absurd l
kind-prices StopLimit None limit p l = absurd p
kind-prices StopLimit (Some price) None p l = absurd l
kind-prices StopLimit (Some price) (Some limit) p l = (wider price p, wider limit l)

what-line : (symbol : List ℕ) (happened : What) → IsWhat symbol happened → lines.IsWhat symbol happened
what-line symbol (what.Submitted kind quantity price limit) is = (is.quantity, kind-prices kind price limit is.price is.limit)
what-line symbol (what.Updated price) is = wider price is
what-line symbol (what.Filled fill) is = is
what-line symbol what.Canceled is = tt
what-line symbol (what.Invalid cause) is = tt

event-line : (t : ℕ) (event : OrderEvent) → IsPrintedMoment (pos t) → IsReply (pos t) (reply.Event event) → IsOfOrder event → lines.IsEvent event
event-line t event printed is of = record {
  at = subst IsPrintedMoment (sym is.at) printed;
  id = of.id;
  what = by event.symbol of.symbol is.what;
}
  where
    by : (symbol : Option (List ℕ)) → is_some symbol ≡ true → IsWhatOf symbol event.what → lines.IsWhatOf symbol event.what
    by None some is = absurd (true≢false (sym some))
    by (Some symbol) some is = what-line symbol event.what is

lines-told : (t : ℕ) (rs : List Reply) → Each (λ r. IsReply (pos t) r) rs → Each NamesOrder rs → Each (λ line. IsLineAt t line) (filter_map (told t) rs)
lines-told t [] all names = tt
lines-told t (reply.Event event ∷ rs) all names = ((λ printed. event-line t event printed all.0 names.0), lines-told t rs all.1 names.1)
lines-told t (reply.Account cash equity ∷ rs) all names = ((λ printed. all.0), lines-told t rs all.1 names.1)
lines-told t (reply.Done ∷ rs) all names = lines-told t rs all.1 names.1

-- ---- the parts, one after the other

-- what handled commands leave and print, where some more requests are counted
pub record Serves (t n : ℕ) (commands : List Command) (s : State) : Type 0 where
  pub book : IsInRange asks.most_asked (after s.book commands)
  pub equities : Each (λ equity. IsMoney equity) (s.equities ++ filter_map equity_told (replies s.book commands))
  pub orders : length (after s.book commands).orders ≤ s.requests + n
  pub lines : Each (λ line. IsLineAt t line) (filter_map (told t) (replies s.book commands))

served-range : (t n : ℕ) (commands : List Command) (s : State) → IsStateInRange s → Each (λ c. IsFromRule t (length s.book.orders) c) commands
    → submitted commands ≤ n → s.requests + n ≤ most_requests → Serves t n commands s
served-range t n commands s r all few room =
    let numbers : Each (λ c. HasNumbers asks.most_asked c) commands = each-through commands (λ c given. given.numbers) all in
    let at : Each (λ c. moment_of c ≡ pos t) commands = each-through commands (λ c given. given.at) all in
    let names : Each (λ c. NamesOneOf (length s.book.orders) c) commands = each-through commands (λ c given. given.names) all in
    let fits : length s.book.orders + submitted commands ≤ most_orders = omega (arith, r.orders, few, room) in
    let told : Each (λ r. IsReply (pos t) r) (replies s.book commands) = commands-replies asks.most_asked (pos t) s.book commands r.book numbers fits at in
    record {
      book = commands-range asks.most_asked s.book commands r.book numbers fits;
      equities = each-append (λ equity. IsMoney equity) s.equities (filter_map equity_told (replies s.book commands)) r.equities
          (equities-told (pos t) (replies s.book commands) told);
      orders = omega (arith, r.orders, few, commands-count asks.most_asked s.book commands r.book numbers fits);
      lines = lines-told t (replies s.book commands) told
          (commands-named asks.most_asked (length s.book.orders) s.book commands r.book numbers fits (omega arith) names);
    }

chosen-stays : (universe : UniversePlan) (t : ℕ) (symbols : List (List ℕ)) (s : State) → IsStateInRange s → StaysInRange t (chosen universe t symbols s)
chosen-stays universe t symbols s r = (
  record { book = r.book; equities = r.equities; orders = r.orders; requests = r.requests },
  each-map (λ line. IsLineAt t line) (added t) (take (room (actives s)) (additions symbols (actives s))) (λ symbol printed. tt),
)

selection-stays : (universe : Option UniversePlan) (t : ℕ) (rows : List CoarseRow) (s : State) → IsStateInRange s → StaysInRange t (selection universe t rows s)
selection-stays None t rows s r = (r, tt)
selection-stays (Some universe) t [] s r = (r, tt)
selection-stays (Some universe) t (row ∷ rows) s r = chosen-stays universe t (selected (row ∷ rows) universe.rule) s r

prices-stays : (t : ℕ) (known : Known) (s : State) → HasBarsInRange known → IsStateInRange s → StaysInRange t (prices t known s)
prices-stays t known s has r =
    let commands : List Command = marks t (histories known s) ++ command.Match (moment t) ∷ [] in
    let given : Each (λ c. IsFromRule t (length s.book.orders) c) (marks t (histories known s) ++ command.Match (moment t) ∷ []) =
    each-append (λ c. IsFromRule t (length s.book.orders) c) (marks t (histories known s)) (command.Match (moment t) ∷ [])
    (marks-given t (length s.book.orders) known (histories known s) has (histories-given known s has))
    (record { numbers = tt; at = refl; names = tt }, tt) in
    let serves : Serves t 0 (marks t (histories known s) ++ command.Match (moment t) ∷ []) s =
    served-range t 0 (marks t (histories known s) ++ command.Match (moment t) ∷ []) s r given
    (omega (arith, no-submits t (histories known s))) (omega (arith, r.requests)) in
    (record { book = serves.book; equities = serves.equities; orders = omega (arith, serves.orders); requests = r.requests }, serves.lines)

traded-stays : (t : ℕ) (asked : List Command) (s : State) → IsStateInRange s → Each (λ c. IsFromRule t (length s.book.orders) c) asked
    → StaysInRange t (traded t asked s)
traded-stays t asked s r all =
    let handled : List Command = take (most_requests - s.requests) asked in
    let fits : s.requests + length (take (most_requests - s.requests) asked) ≤ most_requests = room-left most_requests s.requests asked r.requests in
    let serves : Serves t (length (take (most_requests - s.requests) asked)) (take (most_requests - s.requests) asked) s =
    served-range t (length (take (most_requests - s.requests) asked)) (take (most_requests - s.requests) asked) s r
    (each-take (λ c. IsFromRule t (length s.book.orders) c) (most_requests - s.requests) asked all)
    (submitted-few (take (most_requests - s.requests) asked)) fits in
    (record { book = serves.book; equities = serves.equities; orders = serves.orders; requests = fits }, serves.lines)

trading-stays : (setup : Setup) (t : ℕ) (known : Known) (s : State) → IsStateInRange s → StaysInRange t (trading setup t known s)
trading-stays setup t known s r =
    traded-stays t (requests setup.plan.rules (seen_of s.book) t (histories known s)) s r
    (all-asked t (length s.book.orders) setup.plan.rules (seen_of s.book) (histories known s) (live-within s.book.orders r.book.numbered))

closing-stays : (hours : Entries) (t : ℕ) (s : State) → IsStateInRange s → StaysInRange t (closing hours t s)
closing-stays hours t s r = by (is_closing hours t)
  where
    by : (b : Bool) → StaysInRange t (if b then served t (command.Account (moment t) ∷ []) s else rests s)
    by true =
        let serves : Serves t 0 (command.Account (moment t) ∷ []) s =
        served-range t 0 (command.Account (moment t) ∷ []) s r (record { numbers = tt; at = refl; names = tt }, tt) (omega arith) (omega (arith, r.requests)) in
        (record { book = serves.book; equities = serves.equities; orders = omega (arith, serves.orders); requests = r.requests }, serves.lines)
    by false = (r, tt)

removals-stays : (t : ℕ) (s : State) → IsStateInRange s → StaysInRange t (removals t s)
removals-stays t s r = (
  record { book = r.book; equities = r.equities; orders = r.orders; requests = r.requests },
  each-map (λ line. IsLineAt t line) (λ security. removed t (symbol_of security)) (filter (is_done_with (seen_of s.book)) s.securities) (λ security printed. tt),
)

before-stays : (t : ℕ) (first : Ran State Line Halt) (later : State → Ran State Line Halt) → StaysInRange t first
    → ((s : State) → IsStateInRange s → StaysInRange t (later s)) → StaysInRange t (before first later)
before-stays t first later here on = by first.stop refl
  where
    by : (stop : Option Halt) → first.stop ≡ stop → StaysInRange t (before first later)
    by None is =
        let next : StaysInRange t (later first.state) = on first.state here.0 in
        subst (λ z. StaysInRange t (before (record { lines = first.lines; state = first.state; stop = z }) later)) (sym is)
        (next.0, each-append (λ line. IsLineAt t line) first.lines (later first.state).lines here.1 next.1)
    by (Some z) is = subst (λ z. StaysInRange t (before (record { lines = first.lines; state = first.state; stop = z }) later)) (sym is) here

turn-stays : (t : ℕ) (parts : List Part) → Each (λ part. (s : State) → IsStateInRange s → StaysInRange t (part s)) parts → (s : State) → IsStateInRange s
    → StaysInRange t (in_turn parts s)
turn-stays t [] stay s r = (r, tt)
turn-stays t (part ∷ parts) stay s r = before-stays t (part s) (in_turn parts) (stay.0 s r) (turn-stays t parts stay.1)

pub parts-stay : (setup : Setup) (t : ℕ) (known : Known) → HasBarsInRange known
    → Each (λ part. (s : State) → IsStateInRange s → StaysInRange t (part s)) (parts_of setup t known)
parts-stay setup t known has = (
  selection-stays setup.plan.universe t known.coarse,
  (
    (λ s r. prices-stays t known s has r),
    (
      trading-stays setup t known,
      (
        closing-stays setup.hours t,
        (
          removals-stays t,
          ((λ s r. (r, tt)), tt),
        ),
      ),
    ),
  ),
)

moment-stays : (setup : Setup) (t : ℕ) (known : Known) (s : State) → HasBarsInRange known → IsStateInRange s
    → StaysInRange t (moments.moment_of setup t known s)
unfolding moments.moment_of
moment-stays setup t known s has r = turn-stays t (parts_of setup t known) (parts-stay setup t known has) s r

pub moment-range : (setup : Setup) (t : ℕ) (known : Known) (s : State) → HasBarsInRange known → IsStateInRange s
    → IsStateInRange (moments.moment_of setup t known s).state
moment-range setup t known s has r = (moment-stays setup t known s has r).0

pub moment-lines : (setup : Setup) (t : ℕ) (known : Known) (s : State) → HasBarsInRange known → IsStateInRange s → IsPrintedMoment (pos t)
    → Each (λ line. IsLineInRange line) (moments.moment_of setup t known s).lines
moment-lines setup t known s has r printed =
    each-through (moments.moment_of setup t known s).lines (λ line is. is printed) (moment-stays setup t known s has r).1

opening-range : (setup : Setup) → IsPlan setup.plan → IsStateInRange (opening setup)
opening-range setup valid = record {
  book = new-range asks.most_asked setup.plan.cash.0 setup.plan.costs setup.plan.leverage setup.hours valid.cash valid.costs valid.leverage;
  equities = tt;
  orders = omega arith;
  requests = omega arith;
}

pub states-range : (setup : Setup) (world : World) (count : ℕ) → IsPlan setup.plan → IsWorldInRange world
    → IsStateInRange (reports.moments setup world count).state
states-range setup world count valid has =
    run-keeps IsStateInRange (step_of setup world) (λ t s r. moment-range setup t (world t) s (has t) r) count
    (first_moment setup.plan.window) (opening setup) (opening-range setup valid)

-- ---- what is asked of the book may be

fitting-given : (t orders : ℕ) (c : Command) → IsMoment (pos t) → IsFromRule t orders c → IsFitting c
fitting-given t orders (command.Mark at symbol bar) m c = (subst IsMoment (sym c.at) m, c.numbers)
fitting-given t orders (command.Match at) m c = subst IsMoment (sym c.at) m
fitting-given t orders (command.Submit at request) m c = subst IsMoment (sym c.at) m
fitting-given t orders (command.Update at id price) m c = subst IsMoment (sym c.at) m
fitting-given t orders (command.Cancel at id) m c = subst IsMoment (sym c.at) m
fitting-given t orders (command.Account at) m c = subst IsMoment (sym c.at) m

pub marks-fit : (t : ℕ) (known : Known) (s : State) → HasBarsInRange known → IsMoment (pos t) → Each (λ c. IsFitting c) (marks t (histories known s))
marks-fit t known s has m =
    each-through (marks t (histories known s)) (λ c given. fitting-given t 0 c m given)
    (marks-given t 0 known (histories known s) has (histories-given known s has))

pub requests-fit : (setup : Setup) (t : ℕ) (known : Known) (s : State) → IsStateInRange s → IsMoment (pos t)
    → Each (λ c. IsFitting c) (requests setup.plan.rules (seen_of s.book) t (histories known s))
requests-fit setup t known s r m =
    each-through (requests setup.plan.rules (seen_of s.book) t (histories known s)) (λ c given. fitting-given t (length s.book.orders) c m given)
    (all-asked t (length s.book.orders) setup.plan.rules (seen_of s.book) (histories known s) (live-within s.book.orders r.book.numbered))

-- ---- the world of a folder's files

pub files-range : (files : Files) (hours : Entries) (window : Window) → LieInDays hours → IsWindow window → IsWorldInRange (world_of files hours window)
unfolding world_of
files-range files hours window every is_window t key =
    each-through (feed_bars files hours window key t) (λ bar is. is.in_range) (known_sound files hours window key every is_window key.kind refl t)
