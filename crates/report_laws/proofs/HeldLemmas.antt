-- Something is held of a symbol, or an order of it is live, only while a security of it is active whose feed has given a bar.
use Rattle.std.proofs.Common.{◌≡◌, ◌≢◌, ℕ, zero, suc, ◌+◌, ◌-◌, ℤ, pos, List, [], ◌∷◌, ◌++◌, Bool, true, false, cond, refl, sym, ap, subst, ◌∙◌, arith, inl, inr, true≢false, if◌then◌else◌}
use Rattle.std.specs.Prelude.{Option, Some, None, ◌⊎◌, IfSome, ◌==◌, ◌||◌, not, map, filter, flat_map, find, take, length, is_some, option_map, option_and_then}
use Rattle.std.specs.List.{AllByRecursion as Each, filter_map, cons_option, last_or}
use Rattle.std.specs.Option.{option_to_list}
use Rattle.std.specs.Ordering.{int_eq}
use Rattle.std.proofs.lemmas.Bool.Decides.{Decides-int_eq}
use Rattle.std.proofs.lemmas.Bool.{and_parts}
use Rattle.std.proofs.lemmas.List.{append-nil}
use Rattle.std.proofs.lemmas.List.Elements.{filter-append}
use Rattle.exchange_hours.specs.Sessions.{moment, is_open_at}
use Rattle.lean_fixed.specs.Moments.{first_moment}
use Rattle.lean_fixed.specs.Ranges.{is_price}
use Rattle.lean_fixed.specs.declared.money.Price.{Price}
use Rattle.lean_fixed.specs.declared.time.Moment.{Moment}
use Rattle.lean_items.specs.declared.bar.Bar.{Bar}
use Rattle.lean_items.specs.declared.coarse_row.CoarseRow.{CoarseRow}
use Rattle.lean_items.specs.declared.feed_key.FeedKey.{FeedKey}
use Rattle.lean_orders.specs.declared.order.Kind.{Kind}
use Rattle.lean_orders.specs.declared.order.Kind.TheVariants.{Market, AtOpen}
use Rattle.lean_orders.specs.declared.order.Order.{Order}
use Rattle.lean_orders.specs.declared.order.OrderState.TheVariants as state
use Rattle.lean_orders.specs.declared.order.Request.{Request}
use Rattle.lean_orders.specs.declared.order.Resting.{Resting}
use Rattle.lean_orders.specs.declared.event.Cause.{Cause}
use Rattle.lean_orders.specs.declared.event.Cause.TheVariants.{PriceForm, Closed}
use Rattle.lean_orders.specs.declared.event.Fill.{Fill}
use Rattle.lean_orders.specs.declared.event.What.TheVariants as what
use Rattle.lean_orders.specs.declared.desk.PriceBar.{PriceBar}
use Rattle.lean_orders.specs.declared.desk.Command.{Command}
use Rattle.lean_orders.specs.declared.desk.Command.TheVariants.{Mark, Match, Submit, Update, Cancel, Account}
use Rattle.fill_models.specs.FillPrice.{fill_price}
use Rattle.portfolio.specs.Symbols.{same_symbol, sum_of}
use Rattle.portfolio.specs.Sums as sums
use Rattle.portfolio.proofs.SymbolLemmas.{same_is}
use Rattle.rule_strategy.specs.declared.asking.RuleView.{RuleView}
use Rattle.rule_strategy.specs.declared.rule.Action.{Action}
use Rattle.rule_strategy.specs.declared.rule.Action.TheVariants as act
use Rattle.rule_strategy.specs.declared.rule.Rule.{Rule}
use Rattle.rule_strategy.specs.declared.universe.UniversePlan.{UniversePlan}
use Rattle.rule_strategy.specs.RuleTexts.{rests_at_price}
use Rattle.rule_strategy.specs.Asked.{asked, asked_if, submits, updates, asked_by, requests_of}
use Rattle.rule_strategy.specs.Validity.{IsPlan}
use Rattle.rule_lang.specs.Values.{truth_in}
use Rattle.universe_rules.specs.Selected.{selected}
use Rattle.universe_state.specs.Choice.{additions, room}
use Rattle.clock_steps.specs.Runs.{before, run}
use Rattle.clock_steps.proofs.RunLemmas.{before-same, run-cut, run-one}
use Rattle.clock_feeds.specs.Bars.{ends_at}
use Rattle.clock_book.specs.Books.{Book, is_live, order_of, price_of, position_of, bar_to_try, table_bar, opening_of}
use Rattle.clock_book.specs.Submits.{has_price, submit_cause, order_for, fill_at, market_fill}
use Rattle.clock_book.specs.Matches.{in_state, set_off, fill_on, matched, after_trigger, after_match}
use Rattle.clock_book.specs.Handled.{Handled, handled, after, accepted_submit, priced_submit, judged_submit, market_submit, resting_submit, update_found, cancel_found, refused, done, said, with_orders, replaced, at_price}
use Rattle.clock_book.specs.Seen.{Seen, seen_of, resting_of, live_of}
use Rattle.clock_book.proofs.SeenLemmas.{more_differs}
use Rattle.clock_book.proofs.LearntLemmas.{same_but}
use Rattle.clock_run.specs.Known.{Known, World}
use Rattle.clock_run.specs.States.{Setup, Subscription, State, symbol_of, actives, numbered, joining, opening}
use Rattle.clock_run.specs.Histories.{History, history_of, histories, bar_now, fresh_bar}
use Rattle.clock_run.specs.Requests.{position_seen, orders_seen, is_for, rule_view, fresh_requests, security_requests, requests}
use Rattle.clock_run.specs.Moments.{marked_as, selection, marks, price_bar, most_requests, is_done_with, removals, moment_of}
use Rattle.clock_run.specs.Reports.{step_of, moments}
use Rattle.clock_run.proofs.EachLemmas.{each-append, each-take, each-if, each-map, each-flat_map}
use Rattle.clock_run.proofs.BarLemmas.{last-push}
use Rattle.clock_run.proofs.IdleLemmas.{fresh-quiet}
use Rattle.report_laws.specs.Ledger.{position_in}
use Rattle.report_laws.specs.Closings.{closings_before, ledger_of, HasLastPrice, IsAtLastBar, HasOne}
use Rattle.report_laws.proofs.PaidLemmas.{moments-go}
use Rattle.report_laws.proofs.PriceLemmas.{GoesOn, Grows, kept-before, kept-moment, all-priced}

-- ---- one of some things

module _ {X : Type 0} where
  one-front : (P : X → Type 0) (xs ys : List X) → HasOne P xs → HasOne P (xs ++ ys)
  one-front P [] ys one = absurd one
  one-front P (x ∷ xs) ys (inl here) = inl here
  one-front P (x ∷ xs) ys (inr later) = inr (one-front P xs ys later)

  one-mapped : {Y : Type 0} (P : Y → Type 0) (f : X → Y) (xs : List X) → HasOne (λ x. P (f x)) xs → HasOne P (map f xs)
  one-mapped P f [] one = absurd one
  one-mapped P f (x ∷ xs) (inl here) = inl here
  one-mapped P f (x ∷ xs) (inr later) = inr (one-mapped P f xs later)

  one-through : {P Q : X → Type 0} → ((x : X) → P x → Q x) → (xs : List X) → HasOne P xs → HasOne Q xs
  one-through through [] one = absurd one
  one-through through (x ∷ xs) (inl here) = inl (through x here)
  one-through through (x ∷ xs) (inr later) = inr (one-through through xs later)

  one-both : {P Q R : X → Type 0} → ((x : X) → P x → Q x → R x) → (xs : List X) → Each P xs → HasOne Q xs → HasOne R xs
  one-both both [] all one = absurd one
  one-both both (x ∷ xs) all (inl here) = inl (both x all.0 here)
  one-both both (x ∷ xs) all (inr later) = inr (one-both both xs all.1 later)

  found-is : (P : X → Type 0) (p : X → Bool) (xs : List X) → Each P xs → IfSome (find p xs) P
  found-is P p [] all = tt
  found-is P p (x ∷ xs) all = by (p x) (found-is P p xs all.1)
    where
      by : (b : Bool) → IfSome (find p xs) P → IfSome (cond b (Some x) (find p xs)) P
      by true later = all.0
      by false later = later

not-none : (n : ℕ) → (suc n == 0) ≡ true → ⊥
not-none n none = true≢false (sym none ∙ more_differs (suc n) 0 (omega arith))

module _ (x : List ℕ) where
  -- ---- a symbol of which nothing is held, and no order is live

  abbrev IsOther : Order → Type 0
  IsOther order = is_live order.state ≡ true → same_symbol x order.symbol ≡ false

  pub record IsFree (book : Book) : Type 0 where
    pub fills : position_of book x ≡ pos 0
    pub orders : Each IsOther book.orders

  -- a request of another symbol
  abbrev Avoids : Command → Type 0
  Avoids (Submit at request) = same_symbol x request.symbol ≡ false
  Avoids _ = Unit {0}

  more-fills : (fills more : List Fill) → sums.fills_of x more ≡ [] → sums.position x fills ≡ pos 0 → sums.position x (fills ++ more) ≡ pos 0
  more-fills fills more none free =
      ap (sum_of (λ fill. fill.quantity.0)) (filter-append (λ fill. same_symbol x fill.symbol) fills more)
      ∙ ap (λ later. sum_of (λ fill. fill.quantity.0) (sums.fills_of x fills ++ later)) none
      ∙ ap (sum_of (λ fill. fill.quantity.0)) (append-nil (sums.fills_of x fills))
      ∙ free

  -- a match
  fill-other : (book : Book) (order : Order) (later : List Fill) → IsOther order → sums.fills_of x later ≡ []
      → sums.fills_of x (cons_option (matched book order) later) ≡ []
  fill-other book order later other none = by_live (is_live order.state) refl
    where
      free : Option Fill → Type 0
      free fill = sums.fills_of x (cons_option fill later) ≡ []

      by_price : same_symbol x order.symbol ≡ false → (price : Option ℤ) → free (option_map (fill_at book.costs order.symbol order.quantity.0) price)
      by_price apart None = none
      by_price apart (Some price) =
          ap (λ b. let fills : List Fill = cond b (fill_at book.costs order.symbol order.quantity.0 price ∷ sums.fills_of x later) (sums.fills_of x later) in fills) apart
          ∙ none

      by_bar : same_symbol x order.symbol ≡ false → (bar : Option PriceBar) → free (option_and_then (fill_on book.costs book.hours order) bar)
      by_bar apart None = none
      by_bar apart (Some bar) =
          by_price apart
          (option_and_then (λ opens. fill_price (set_off book.hours order bar) (table_bar bar) opens book.costs) (opening_of book.hours bar.start.0))

      by_live : (b : Bool) → is_live order.state ≡ b
          → free (option_and_then (fill_on book.costs book.hours order) (if is_live order.state then bar_to_try book order.symbol else None))
      by_live true live = by_bar (other live) (if is_live order.state then bar_to_try book order.symbol else None)
      by_live false dead =
          subst (λ b. free (option_and_then (fill_on book.costs book.hours order) (if b then bar_to_try book order.symbol else None))) (sym dead) none

  fills-other : (book : Book) (orders : List Order) → Each IsOther orders → sums.fills_of x (filter_map (matched book) orders) ≡ []
  fills-other book [] others = refl
  fills-other book (order ∷ orders) others = fill-other book order (filter_map (matched book) orders) others.0 (fills-other book orders others.1)

  tried-other : (book : Book) (order : Order) → IsOther order → IsOther (after_match book order)
  tried-other book order other = by (is_some (matched book order))
    where
      triggered-other : IsOther (after_trigger book order)
      triggered-other live =
          ap (same_symbol x) (same_but (λ o. o.symbol) (λ o. refl) book order)
          ∙ other (ap is_live (sym (same_but (λ o. o.state) (λ o. refl) book order)) ∙ live)

      by : (b : Bool) → IsOther (if b then in_state state.Filled (after_trigger book order) else after_trigger book order)
      by true live = absurd (true≢false (sym live))
      by false live = triggered-other live

  orders-tried : (book : Book) (orders : List Order) → Each IsOther orders → Each IsOther (map (after_match book) orders)
  orders-tried book [] others = tt
  orders-tried book (order ∷ orders) others = (tried-other book order others.0, orders-tried book orders others.1)

  match-free : (book : Book) (at : Moment) → IsFree book → IsFree (handled book (Match at)).book
  match-free book at free = record {
    fills = more-fills book.fills (filter_map (matched book) book.orders) (fills-other book book.orders free.orders) free.fills;
    orders = orders-tried book book.orders free.orders;
  }

  -- a request of another symbol, an update or a cancel
  one-more : (book : Book) (order : Order) → IsOther order → Each IsOther book.orders → Each IsOther (book.orders ++ order ∷ [])
  one-more book order other others = each-append IsOther book.orders (order ∷ []) others (other, tt)

  either-free : (b : Bool) (one two : Handled) → IsFree one.book → IsFree two.book → IsFree (cond b one two).book
  either-free true one two p q = p
  either-free false one two p q = q

  accepted-free : (book : Book) (at : Moment) (request : Request) (kind : Kind) (price : ℤ) → same_symbol x request.symbol ≡ false → IsFree book
      → IsFree (accepted_submit book at request kind price).book
  accepted-free book at request Market price apart free =
      either-free (is_open_at book.hours at.0) (market_submit book at request price) (resting_submit book at request AtOpen)
      (record {
        fills = more-fills book.fills (market_fill book request price ∷ [])
            (ap (λ b. let fills : List Fill = cond b (market_fill book request price ∷ []) [] in fills) apart) free.fills;
        orders = one-more book (order_for book at request Market state.Filled) (λ live. absurd (true≢false (sym live))) free.orders;
      })
      (record { fills = free.fills; orders = one-more book (order_for book at request AtOpen state.Live) (λ live. apart) free.orders })
  accepted-free book at request kind price apart free =
      record { fills = free.fills; orders = one-more book (order_for book at request kind state.Live) (λ live. apart) free.orders }

  priced-free : (book : Book) (at : Moment) (request : Request) (price : Option ℤ) → same_symbol x request.symbol ≡ false → IsFree book
      → IsFree (priced_submit book at request price).book
  priced-free book at request None apart free = free
  priced-free book at request (Some price) apart free = accepted-free book at request request.kind price apart free

  judged-free : (book : Book) (at : Moment) (request : Request) (cause : Option Cause) → same_symbol x request.symbol ≡ false → IsFree book
      → IsFree (judged_submit book at request cause).book
  judged-free book at request (Some cause) apart free = record {
    fills = free.fills;
    orders = one-more book (order_for book at request request.kind state.Refused) (λ live. absurd (true≢false (sym live))) free.orders;
  }
  judged-free book at request None apart free = priced-free book at request (price_of book request.symbol) apart free

  replaced-other : (orders : List Order) (order : Order) → IsOther order → Each IsOther orders → Each IsOther (replaced orders order)
  replaced-other [] order other others = tt
  replaced-other (old ∷ orders) order other others = (by (old.id == order.id), replaced-other orders order other others.1)
    where
      by : (b : Bool) → IsOther (if b then order else old)
      by true = other
      by false = others.0

  updated-free : (book : Book) (at : Moment) (id : ℕ) (price : Price) (order : Option Order) → IfSome order IsOther → IsFree book
      → IsFree (update_found book at id price order).book
  updated-free book at id price None other free = free
  updated-free book at id price (Some order) other free =
      let changed = done (said at order.id order.symbol (what.Updated price) ∷ []) (with_orders book (replaced book.orders (at_price price order))) in
      either-free (not (is_live order.state)) (refused book at order Closed)
      (if not (has_price order.kind) || not (is_price price.0) then refused book at order PriceForm else changed)
      free
      (either-free (not (has_price order.kind) || not (is_price price.0)) (refused book at order PriceForm) changed
      free
      (record { fills = free.fills; orders = replaced-other book.orders (at_price price order) other free.orders }))

  canceled-free : (book : Book) (at : Moment) (id : ℕ) (order : Option Order) → IsFree book → IsFree (cancel_found book at id order).book
  canceled-free book at id None free = free
  canceled-free book at id (Some order) free =
      let changed = done (said at order.id order.symbol what.Canceled ∷ []) (with_orders book (replaced book.orders (in_state state.Canceled order))) in
      either-free (not (is_live order.state)) (refused book at order Closed) changed
      free
      (record {
        fills = free.fills;
        orders = replaced-other book.orders (in_state state.Canceled order) (λ live. absurd (true≢false (sym live))) free.orders;
      })

  command-free : (book : Book) (c : Command) → Avoids c → IsFree book → IsFree (handled book c).book
  command-free book (Mark at symbol bar) avoids free = record { fills = free.fills; orders = free.orders }
  command-free book (Match at) avoids free = match-free book at free
  command-free book (Submit at request) avoids free = judged-free book at request (submit_cause book request) avoids free
  command-free book (Update at id price) avoids free =
      updated-free book at id price (order_of book id) (found-is IsOther (λ order. order.id == id) book.orders free.orders) free
  command-free book (Cancel at id) avoids free = canceled-free book at id (order_of book id) free
  command-free book (Account at) avoids free = free

  -- `Held` is what a request of the symbol tells
  commands-free : (Held : Type 0) (book : Book) (cs : List Command) → Each (λ c. Avoids c ⊎ Held) cs → IsFree book ⊎ Held → IsFree (after book cs) ⊎ Held
  unfolding after
  commands-free Held book [] all either = either
  commands-free Held book (c ∷ cs) all (inr held) = inr held
  commands-free Held book (c ∷ cs) all (inl free) = by all.0 (λ next. commands-free Held (handled book c).book cs all.1 (inl next))
    where
      by : Avoids c ⊎ Held → (IsFree (handled book c).book → IsFree (after (handled book c).book cs) ⊎ Held) → IsFree (after (handled book c).book cs) ⊎ Held
      by (inl avoids) later = later (command-free book c avoids free)
      by (inr held) later = inr held

  -- ---- an active security of the symbol, whose feed has given a bar

  pub record Gave (bars : FeedKey → List Bar) (security : Subscription) : Type 0 where
    pub same : same_symbol x (symbol_of security) ≡ true
    pub bar : Bar
    pub last : last_or None (bars security.key) ≡ Some bar

  abbrev pub IsKnown : (FeedKey → List Bar) → State → Type 0
  IsKnown bars s = IsFree s.book ⊎ HasOne (Gave bars) s.securities

  last-more : (bars earlier : List Bar) (found : Option Bar) (bar : Bar) → bars ≡ earlier ++ option_to_list found → last_or None earlier ≡ Some bar
      → (bar : Bar) × (last_or None bars ≡ Some bar)
  last-more bars earlier None bar is last = (bar, ap (last_or None) (is ∙ append-nil earlier) ∙ last)
  last-more bars earlier (Some found) bar is last = (found, ap (last_or None) is ∙ last-push None earlier found)

  gave-more : (t : ℕ) (earlier bars : FeedKey → List Bar) → GoesOn earlier bars t → (security : Subscription) → Gave earlier security → Gave bars security
  gave-more t earlier bars on security gave =
      let key = security.key in
      let more = last-more (bars key) (earlier key) (find (ends_at t) (bars key)) gave.bar (on key) gave.last in
      record { same = gave.same; bar = more.0; last = more.1 }

  -- ---- what rules ask for

  submits-avoid : (at : Moment) (symbol : List ℕ) (kind : Kind) (quantity : Option ℤ) (price limit : Option (Option Price)) → same_symbol x symbol ≡ false
      → Each Avoids (submits at symbol kind quantity price limit)
  submits-avoid at symbol kind (Some quantity) (Some price) (Some limit) apart = (apart, tt)
  submits-avoid at symbol kind (Some quantity) (Some price) None apart = tt
  submits-avoid at symbol kind (Some quantity) None limit apart = tt
  submits-avoid at symbol kind None price limit apart = tt

  updates-avoid : (at : Moment) (price : Option ℤ) (live : List Resting) → Each Avoids (updates at price live)
  updates-avoid at None live = tt
  updates-avoid at (Some price) live = each-map Avoids _ (filter (λ order. rests_at_price order.kind) live) (λ order. tt)

  action-avoids : (action : Action) (symbol : List ℕ) (view : RuleView) (live : List Resting) → same_symbol x symbol ≡ false
      → Each Avoids (asked_by action symbol view live)
  action-avoids (act.Order kind quantity price limit) symbol view live apart =
      submits-avoid view.when.at symbol kind (asked view.quantity quantity) (asked_if view.price price) (asked_if view.limit limit) apart
  action-avoids (act.Update price) symbol view live apart = updates-avoid view.when.at (asked view.price price) live
  action-avoids act.Cancel symbol view live apart = each-map Avoids _ live (λ order. tt)

  rule-avoids : (rule : Rule) (symbol : List ℕ) (view : RuleView) (live : List Resting) → same_symbol x symbol ≡ false
      → Each Avoids (requests_of rule symbol view live)
  unfolding requests_of
  rule-avoids rule symbol view live apart =
      each-if Avoids (truth_in view.when rule.when) (asked_by rule.action symbol view live) (action-avoids rule.action symbol view live apart)

  each-inl : (Held : Type 0) (cs : List Command) → Each Avoids cs → Each (λ c. Avoids c ⊎ Held) cs
  each-inl Held [] all = tt
  each-inl Held (c ∷ cs) all = (inl all.0, each-inl Held cs all.1)

  each-inr : (Held : Type 0) (cs : List Command) → Held → Each (λ c. Avoids c ⊎ Held) cs
  each-inr Held [] held = tt
  each-inr Held (c ∷ cs) held = (inr held, each-inr Held cs held)

  last-some : (bar : Bar) (bars : List Bar) → (last : Bar) × (last_or (Some bar) bars ≡ Some last)
  last-some bar [] = (bar, refl)
  last-some bar (next ∷ bars) = last-some next bars

  -- a fresh security has a bar
  fresh-last : (t : ℕ) (h : History) (bar : Bar) → fresh_bar t h ≡ Some bar → (last : Bar) × (last_or None h.bars ≡ Some last)
  fresh-last t h bar fresh = by h.bars refl
    where
      by : (bars : List Bar) → h.bars ≡ bars → (last : Bar) × (last_or None h.bars ≡ Some last)
      by [] none =
          absurd (let e : None ≡ Some bar = sym (fresh-quiet t h (subst (Each (λ bar. ends_at t bar ≡ false)) (sym none) tt)) ∙ fresh in cc)
      by (first ∷ bars) are = let last = last-some first bars in (last.0, ap (last_or None) are ∙ last.1)

  module _ (t : ℕ) (known : Known) (seen : Seen) where
    security-asks : (Held : Type 0) (rule : Rule) (security : Subscription) → (Gave known.bars security → Held)
        → Each (λ c. Avoids c ⊎ Held) (security_requests seen t rule (history_of known security))
    security-asks Held rule security tells = by (fresh_bar t (history_of known security)) refl
      where
        by_symbol : (bar : Bar) → fresh_bar t (history_of known security) ≡ Some bar → (b : Bool) → same_symbol x (symbol_of security) ≡ b
            → Each (λ c. Avoids c ⊎ Held)
            (requests_of rule (symbol_of security) (rule_view seen t (history_of known security) bar rule) (orders_seen seen (symbol_of security)))
        by_symbol bar fresh true same =
            let last = fresh-last t (history_of known security) bar fresh in
            each-inr Held (requests_of rule (symbol_of security) (rule_view seen t (history_of known security) bar rule) (orders_seen seen (symbol_of security)))
            (tells (record { same = same; bar = last.0; last = last.1 }))
        by_symbol bar fresh false apart =
            each-inl Held (requests_of rule (symbol_of security) (rule_view seen t (history_of known security) bar rule) (orders_seen seen (symbol_of security)))
            (rule-avoids rule (symbol_of security) (rule_view seen t (history_of known security) bar rule) (orders_seen seen (symbol_of security)) apart)

        by : (bar : Option Bar) → fresh_bar t (history_of known security) ≡ bar
            → Each (λ c. Avoids c ⊎ Held) (fresh_requests rule seen t (history_of known security) bar)
        by None fresh = tt
        by (Some bar) fresh =
            each-if (λ c. Avoids c ⊎ Held) (is_for rule.symbol (symbol_of security))
            (requests_of rule (symbol_of security) (rule_view seen t (history_of known security) bar rule) (orders_seen seen (symbol_of security)))
            (by_symbol bar fresh (same_symbol x (symbol_of security)) refl)

    securities-ask : (Held : Type 0) (rule : Rule) (xs : List Subscription) → (HasOne (Gave known.bars) xs → Held)
        → Each (λ c. Avoids c ⊎ Held) (flat_map (security_requests seen t rule) (map (history_of known) xs))
    securities-ask Held rule [] tells = tt
    securities-ask Held rule (security ∷ xs) tells =
        each-append (λ c. Avoids c ⊎ Held) (security_requests seen t rule (history_of known security))
        (flat_map (security_requests seen t rule) (map (history_of known) xs))
        (security-asks Held rule security (λ gave. tells (inl gave)))
        (securities-ask Held rule xs (λ later. tells (inr later)))

    rules-ask : (rules : List Rule) (xs : List Subscription)
        → Each (λ c. Avoids c ⊎ HasOne (Gave known.bars) xs) (requests rules seen t (map (history_of known) xs))
    unfolding requests
    rules-ask rules xs =
        each-flat_map (λ c. Avoids c ⊎ HasOne (Gave known.bars) xs) (λ rule. flat_map (security_requests seen t rule) (map (history_of known) xs)) rules
        (λ rule. securities-ask (HasOne (Gave known.bars) xs) rule xs (λ one. one))

  marks-avoid : (t : ℕ) (hs : List History) → Each Avoids (marks t hs ++ Match (moment t) ∷ [])
  marks-avoid t [] = (tt, tt)
  marks-avoid t (h ∷ hs) = by (bar_now t h) (marks-avoid t hs)
    where
      by : (bar : Option Bar) → Each Avoids (marks t hs ++ Match (moment t) ∷ [])
          → Each Avoids ((option_to_list (option_map (λ bar. Mark (moment t) h.symbol (price_bar bar)) bar) ++ marks t hs) ++ Match (moment t) ∷ [])
      by None later = later
      by (Some bar) later = (tt, later)

  -- ---- removals

  abbrev IsApart : List ℕ → Order → Type 0
  IsApart symbol order = is_live order.state ≡ true → same_symbol symbol order.symbol ≡ false

  abbrev NoneIsLive : List ℕ → List Order → Type 0
  NoneIsLive symbol orders = (length (filter (λ order. same_symbol symbol order.symbol) (live_of orders)) == 0) ≡ true

  none-live : (symbol : List ℕ) (orders : List Order) → NoneIsLive symbol orders → Each (IsApart symbol) orders
  none-live symbol [] none = tt
  none-live symbol (order ∷ orders) none = by (none-live symbol orders) (is_live order.state) refl none
    where
      by_symbol : (NoneIsLive symbol orders → Each (IsApart symbol) orders) → (b : Bool) → same_symbol symbol order.symbol ≡ b
          → (length (cond b (resting_of order ∷ filter (λ order. same_symbol symbol order.symbol) (live_of orders)) (filter (λ order. same_symbol symbol order.symbol) (live_of orders))) == 0) ≡ true
          → Each (IsApart symbol) (order ∷ orders)
      by_symbol left true same none =
          absurd (not-none (length (filter (λ order. same_symbol symbol order.symbol) (live_of orders))) none)
      by_symbol left false apart none = ((λ live. apart), left none)

      by : (NoneIsLive symbol orders → Each (IsApart symbol) orders) → (b : Bool) → is_live order.state ≡ b
          → (length (filter (λ order. same_symbol symbol order.symbol) (map resting_of (cond b (order ∷ filter (λ order. is_live order.state) orders) (filter (λ order. is_live order.state) orders)))) == 0) ≡ true
          → Each (IsApart symbol) (order ∷ orders)
      by left true live none = by_symbol left (same_symbol symbol order.symbol) refl none
      by left false dead none = ((λ live. absurd (true≢false (sym live ∙ dead))), left none)

  done-free : (book : Book) (security : Subscription) → is_done_with (seen_of book) security ≡ true → same_symbol x (symbol_of security) ≡ true → IsFree book
  done-free book security is_done same =
      let symbol = symbol_of security in
      let is : x ≡ symbol_of security = same_is x (symbol_of security) same in
      let parts = and_parts security.active.marked _ is_done in
      let rest = and_parts (int_eq (position_seen (seen_of book) (symbol_of security)) (pos 0)) _ parts.1 in
      let zero : position_of book (symbol_of security) ≡ pos 0 = (Decides-int_eq (position_of book (symbol_of security)) (pos 0)).0 rest.0 in
      record {
        fills = subst (λ symbol. position_of book symbol ≡ pos 0) (sym is) zero;
        orders = subst (λ symbol. Each (IsApart symbol) book.orders) (sym is)
            (none-live (symbol_of security) book.orders rest.1);
      }

  -- what is left of some securities
  abbrev left_by : Book → List Subscription → List Subscription
  left_by book xs = filter (λ security. not (is_done_with (seen_of book) security)) xs

  removals-known : (bars : FeedKey → List Bar) (book : Book) (xs : List Subscription) → HasOne (Gave bars) xs
      → IsFree book ⊎ HasOne (Gave bars) (left_by book xs)
  removals-known bars book [] one = absurd one
  removals-known bars book (security ∷ xs) one = by (removals-known bars book xs) (is_done_with (seen_of book) security) refl one
    where
      further : IsFree book ⊎ HasOne (Gave bars) (left_by book xs) → IsFree book ⊎ HasOne (Gave bars) (security ∷ left_by book xs)
      further (inl free) = inl free
      further (inr one) = inr (inr one)

      by : (HasOne (Gave bars) xs → IsFree book ⊎ HasOne (Gave bars) (left_by book xs)) → (b : Bool) → is_done_with (seen_of book) security ≡ b
          → HasOne (Gave bars) (security ∷ xs) → IsFree book ⊎ HasOne (Gave bars) (cond (not b) (security ∷ left_by book xs) (left_by book xs))
      by rest true is_done (inl gave) = inl (done-free book security is_done gave.same)
      by rest false kept (inl gave) = inr (inl gave)
      by rest true is_done (inr later) = rest later
      by rest false kept (inr later) = further (rest later)

  -- ---- a moment

  selection-known : (bars : FeedKey → List Bar) (universe : Option UniversePlan) (t : ℕ) (rows : List CoarseRow) (s : State) → IsKnown bars s
      → IsKnown bars (selection universe t rows s).state
  selection-known bars None t rows s known = known
  selection-known bars (Some universe) t [] s known = known
  selection-known bars (Some universe) t (row ∷ rows) s (inl free) = inl free
  selection-known bars (Some universe) t (row ∷ rows) s (inr one) =
      let symbols = selected (row ∷ rows) universe.rule in
      inr (one-front (Gave bars) (map (marked_as symbols) s.securities) (numbered (joining universe t) s.feeds (take (room (actives s)) (additions symbols (actives s))))
      (one-mapped (Gave bars) (marked_as symbols) s.securities
      (one-through (λ security gave. record { same = gave.same; bar = gave.bar; last = gave.last }) s.securities one)))

  moment-known : (setup : Setup) (t : ℕ) (known : Known) (s : State) → IsKnown known.bars s → IsKnown known.bars (moment_of setup t known s).state
  moment-known setup t known s here =
      kept-moment (IsKnown known.bars) setup t known
      (λ s here. commands-free (HasOne (Gave known.bars) s.securities) s.book (marks t (histories known s) ++ Match (moment t) ∷ [])
      (each-inl (HasOne (Gave known.bars) s.securities) (marks t (histories known s) ++ Match (moment t) ∷ []) (marks-avoid t (histories known s))) here)
      (λ s here. commands-free (HasOne (Gave known.bars) s.securities) s.book
      (take (most_requests - s.requests) (requests setup.plan.rules (seen_of s.book) t (histories known s)))
      (each-take (λ c. Avoids c ⊎ HasOne (Gave known.bars) s.securities) (most_requests - s.requests)
      (requests setup.plan.rules (seen_of s.book) t (histories known s)) (rules-ask t known (seen_of s.book) setup.plan.rules s.securities)) here)
      (λ s here. commands-free (HasOne (Gave known.bars) s.securities) s.book (Account (moment t) ∷ []) (inl tt, tt) here)
      (λ s here. removed-known s here)
      s (selection-known known.bars setup.plan.universe t known.coarse s here)
    where
      removed-known : (s : State) → IsKnown known.bars s → IsKnown known.bars (removals t s).state
      removed-known s (inl free) = inl free
      removed-known s (inr one) = removals-known known.bars s.book s.securities one

  -- ---- all moments

  module _ (setup : Setup) (world : World) (grows : Grows world) (eve : ℕ) (first_is : first_moment setup.plan.window ≡ eve + 1) where
    all-known : (n : ℕ) → IsKnown (world (eve + n)).bars (moments setup world n).state
    unfolding run
    all-known zero = inl (record { fills = refl; orders = tt })
    all-known (suc n) =
        let first = first_moment setup.plan.window in
        let step = step_of setup world in
        let ran = moments setup world n in
        let t = first + n in
        let count : suc n ≡ n + 1 = omega arith in
        let one : moments setup world (suc n) ≡ before ran (step (first + n)) =
        ap (moments setup world) count ∙ (run-cut step n 1 first (opening setup) ∙ before-same ran (run step 1 (first + n)) (step (first + n)) (λ s. run-one step (first + n) s)) in
        let at : eve + suc n ≡ first + n = omega (arith, first_is) in
        let later : first + n ≡ eve + n + 1 = omega (arith, first_is) in
        let on : GoesOn (world (eve + n)).bars (world (first + n)).bars (first + n) =
        subst (λ u. GoesOn (world (eve + n)).bars (world u).bars u) (sym later) (grows.more (eve + n)) in
        subst (λ u. IsKnown (world u).bars (moments setup world (suc n)).state) (sym at)
        (subst (λ r. IsKnown (world (first + n)).bars r.state) (sym one)
        (kept-before (IsKnown (world (first + n)).bars) ran (step (first + n)) (more (first + n) (eve + n) on ran.state (all-known n))
        (λ s here. moment-known setup (first + n) (world (first + n)) s here)))
      where
        more : (t u : ℕ) → GoesOn (world u).bars (world t).bars t → (s : State) → IsKnown (world u).bars s → IsKnown (world t).bars s
        more t u on s (inl free) = inl free
        more t u on s (inr one) = inr (one-through (gave-more t (world u).bars (world t).bars on) s.securities one)

    -- what is held of a symbol is at the last bar of an active security of it
    pub held-at : IsPlan setup.plan → (n : ℕ) → (moments setup world (suc n)).stop ≡ None
        → position_in (ledger_of setup world (first_moment setup.plan.window + n) (moments setup world (suc n)).lines) x ≢ pos 0
        → HasOne (IsAtLastBar x (world (first_moment setup.plan.window + n)).bars (closings_before setup world (suc n))) (moments setup world (suc n)).state.securities
    held-at valid n none held =
        let first = first_moment setup.plan.window in
        let s = (moments setup world (suc n)).state in
        let at : eve + suc n ≡ first + n = omega (arith, first_is) in
        let known : IsKnown (world (first + n)).bars (moments setup world (suc n)).state =
        subst (λ u. IsKnown (world u).bars (moments setup world (suc n)).state) at (all-known (suc n)) in
        let priced : Each (HasLastPrice (world (first + n)).bars (closings_before setup world (suc n))) (moments setup world (suc n)).state.securities =
        subst (λ u. Each (HasLastPrice (world u).bars (closings_before setup world (suc n))) (moments setup world (suc n)).state.securities) at
        (all-priced setup world valid grows eve first_is (suc n) none) in
        let fills = ap (λ ledger. position_in ledger x) ((moments-go setup world (suc n)).left none) in
        by known priced (λ free. held (sym fills ∙ free))
      where
        by : IsKnown (world (first_moment setup.plan.window + n)).bars (moments setup world (suc n)).state
            → Each (HasLastPrice (world (first_moment setup.plan.window + n)).bars (closings_before setup world (suc n))) (moments setup world (suc n)).state.securities
            → position_of (moments setup world (suc n)).state.book x ≢ pos 0
            → HasOne (IsAtLastBar x (world (first_moment setup.plan.window + n)).bars (closings_before setup world (suc n))) (moments setup world (suc n)).state.securities
        by (inl free) priced held = absurd (held free.fills)
        by (inr one) priced held =
            one-both (λ security had gave.
            let is : x ≡ symbol_of security = same_is x (symbol_of security) gave.same in
            record {
              is = sym is;
              bar = gave.bar;
              last = gave.last;
              price = ap (λ symbol. sums.last_mark symbol (closings_before setup world (suc n))) is ∙ had gave.bar gave.last;
            })
            (moments setup world (suc n)).state.securities priced one
