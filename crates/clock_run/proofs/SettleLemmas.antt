-- A moment that was not halted leaves a settled state.
use Rattle.std.proofs.Common.{◌≡◌, ℕ, ◌+◌, ◌-◌, List, [], ◌∷◌, ◌++◌, Bool, true, false, refl, ap, sym, ◌∙◌, subst}
use Rattle.std.specs.Prelude.{Option, Some, None, ℤ, filter, length, if◌then◌else◌}
use Rattle.std.specs.List.{AllByRecursion as Each}
use Rattle.lean_fixed.specs.declared.money.Price.{Price}
use Rattle.lean_fixed.specs.declared.time.Moment.{Moment}
use Rattle.lean_fixed.specs.Moments.{first_moment}
use Rattle.lean_items.specs.declared.bar.Bar.{Bar}
use Rattle.exchange_hours.specs.Entries.{Entries}
use Rattle.exchange_hours.specs.Grid.{is_closing}
use Rattle.exchange_hours.specs.Sessions.{moment}
use Rattle.lean_orders.specs.declared.desk.Command.{Command}
use Rattle.lean_orders.specs.declared.desk.Command.TheVariants.{Match, Account}
use Rattle.clock_book.specs.Books.{Book}
use Rattle.clock_book.specs.Handled.{handled, after}
use Rattle.clock_steps.specs.Runs.{rests}
use Rattle.clock_book.specs.Seen.{Seen, seen_of}
use Rattle.lean_orders.specs.declared.order.Kind.{Kind}
use Rattle.lean_orders.specs.declared.order.Resting.{Resting}
use Rattle.rule_strategy.specs.declared.asking.RuleView.{RuleView}
use Rattle.rule_strategy.specs.declared.security.Security.{Security}
use Rattle.rule_strategy.specs.declared.rule.Rule.{Rule}
use Rattle.rule_strategy.specs.declared.rule.Action.{Action}
use Rattle.rule_strategy.specs.declared.rule.Action.TheVariants as act
use Rattle.rule_strategy.specs.RuleTexts.{rests_at_price}
use Rattle.rule_strategy.specs.Asked.{asked, asked_if, submits, updates, asked_by, requests_of}
use Rattle.rule_lang.specs.Values.{truth_in}
use Rattle.clock_run.specs.Known.{Known}
use Rattle.clock_run.specs.States.{Setup, State, numbered, listed, coarse_keys, opening}
use Rattle.clock_run.specs.Histories.{History, histories, fresh_bar}
use Rattle.clock_run.specs.Requests.{orders_seen, is_for, rule_view, fresh_requests, security_requests, requests}
use Rattle.clock_run.specs.Moments.{in_turn, selection, prices, marks, trading, most_requests, closing, removals, refusal, is_done_with, served, moment_of}
use Rattle.clock_run.specs.Idle.{IsTried, IsSettled}
use Rattle.clock_run.proofs.EachLemmas.{each-map, each-flat_map, each-take, each-if, filter-fails}
use Rattle.clock_run.proofs.TradeLemmas.{IsTrade, LeavesMarks, trades-marks}
use Rattle.clock_run.proofs.TurnLemmas.{goes-past}

-- rules ask for trades
submits-trades : (at : Moment) (symbol : List ℕ) (kind : Kind) (quantity : Option ℤ) (price limit : Option (Option Price))
    → Each IsTrade (submits at symbol kind quantity price limit)
submits-trades at symbol kind (Some quantity) (Some price) (Some limit) = (tt, tt)
submits-trades at symbol kind (Some quantity) (Some price) None = tt
submits-trades at symbol kind (Some quantity) None limit = tt
submits-trades at symbol kind None price limit = tt

updates-trades : (at : Moment) (price : Option ℤ) (live : List Resting) → Each IsTrade (updates at price live)
updates-trades at None live = tt
updates-trades at (Some price) live = each-map IsTrade _ (filter (λ order. rests_at_price order.kind) live) (λ order. tt)

action-trades : (action : Action) (symbol : List ℕ) (view : RuleView) (live : List Resting) → Each IsTrade (asked_by action symbol view live)
action-trades (act.Order kind quantity price limit) symbol view live =
    submits-trades view.when.at symbol kind (asked view.quantity quantity) (asked_if view.price price) (asked_if view.limit limit)
action-trades (act.Update price) symbol view live = updates-trades view.when.at (asked view.price price) live
action-trades act.Cancel symbol view live = each-map IsTrade _ live (λ order. tt)

rule-trades : (rule : Rule) (symbol : List ℕ) (view : RuleView) (live : List Resting) → Each IsTrade (requests_of rule symbol view live)
unfolding requests_of
rule-trades rule symbol view live =
    each-if IsTrade (truth_in view.when rule.when) (asked_by rule.action symbol view live) (action-trades rule.action symbol view live)

fresh-trades : (rule : Rule) (seen : Seen) (t : ℕ) (h : History) (bar : Option Bar) → Each IsTrade (fresh_requests rule seen t h bar)
fresh-trades rule seen t h None = tt
fresh-trades rule seen t h (Some bar) =
    each-if IsTrade (is_for rule.symbol h.symbol) (requests_of rule h.symbol (rule_view seen t h bar rule) (orders_seen seen h.symbol))
    (rule-trades rule h.symbol (rule_view seen t h bar rule) (orders_seen seen h.symbol))

pub requests-trades : (rules : List Rule) (seen : Seen) (t : ℕ) (hs : List History) → Each IsTrade (requests rules seen t hs)
unfolding requests
requests-trades rules seen t hs =
    each-flat_map IsTrade _ rules
    (λ rule. each-flat_map IsTrade (security_requests seen t rule) hs (λ h. fresh-trades rule seen t h (fresh_bar t h)))

-- after a match the orders were tried on all marks
after-append : (book : Book) (xs ys : List Command) → after book (xs ++ ys) ≡ after (after book xs) ys
unfolding after
after-append book [] ys = refl
after-append book (c ∷ xs) ys = after-append (handled book c).book xs ys

match-tries : (book : Book) (at : Moment) → (after book (Match at ∷ [])).tried ≡ length (after book (Match at ∷ [])).marks
unfolding after
match-tries book at = refl

prices-try : (t : ℕ) (known : Known) (s : State) → IsTried (prices t known s).state
prices-try t known s =
    let ms = marks t (histories known s) in
    subst (λ book. book.tried ≡ length book.marks) (sym (after-append s.book ms (Match (moment t) ∷ [])))
    (match-tries (after s.book ms) (moment t))

trades-try : (book : Book) (commands : List Command) → Each IsTrade commands → book.tried ≡ length book.marks
    → (after book commands).tried ≡ length (after book commands).marks
trades-try book commands trades tried =
    let left : LeavesMarks book (after book commands) = trades-marks book commands trades in
    left.tried ∙ tried ∙ sym (ap length left.marks)

trading-tried : (setup : Setup) (t : ℕ) (known : Known) (s : State) → IsTried s → IsTried (trading setup t known s).state
trading-tried setup t known s tried =
    trades-try s.book _
    (each-take IsTrade (most_requests - s.requests) _ (requests-trades setup.plan.rules (seen_of s.book) t (histories known s))) tried

closing-tried : (hours : Entries) (t : ℕ) (s : State) → IsTried s → IsTried (closing hours t s).state
closing-tried hours t s tried = by (is_closing hours t)
  where
    by : (b : Bool) → IsTried (if b then served t (Account (moment t) ∷ []) s else rests s).state
    by true = trades-try s.book (Account (moment t) ∷ []) (tt, tt) tried
    by false = tried

-- what is left has nothing to be removed
removals-keep : (t : ℕ) (s : State) → Each (λ security. is_done_with (seen_of s.book) security ≡ false) (removals t s).state.securities
removals-keep t s = filter-fails (is_done_with (seen_of s.book)) s.securities

pub moment-settles : (setup : Setup) (t : ℕ) (known : Known) (s : State) → (moment_of setup t known s).stop ≡ None
    → IsSettled (moment_of setup t known s).state
unfolding moment_of
moment-settles setup t known s none =
    let of_refusal = refusal setup known ∷ [] in
    let of_removals = removals t ∷ of_refusal in
    let of_closing = closing setup.hours t ∷ of_removals in
    let of_trading = trading setup t known ∷ of_closing in
    let of_prices = prices t known ∷ of_trading in
    let one = goes-past (selection setup.plan.universe t known.coarse s) (in_turn of_prices) none in
    let s1 = (selection setup.plan.universe t known.coarse s).state in
    let two = goes-past (prices t known s1) (in_turn of_trading) one.later_goes_on in
    let s2 = (prices t known s1).state in
    let three = goes-past (trading setup t known s2) (in_turn of_closing) two.later_goes_on in
    let s3 = (trading setup t known s2).state in
    let four = goes-past (closing setup.hours t s3) (in_turn of_removals) three.later_goes_on in
    let s4 = (closing setup.hours t s3).state in
    let five = goes-past (removals t s4) (in_turn of_refusal) four.later_goes_on in
    let s5 = (removals t s4).state in
    let six = goes-past (refusal setup known s5) (in_turn []) five.later_goes_on in
    let same : (moment_of setup t known s).state ≡ s5 =
    one.state ∙ (two.state ∙ (three.state ∙ (four.state ∙ (five.state ∙ six.state)))) in
    subst IsSettled (sym same)
    (record {
      tried = closing-tried setup.hours t s3 (trading-tried setup t known s2 (prices-try t known s1));
      kept = removals-keep t s4;
    })

-- no listed security is marked
listed-kept : (start n : ℕ) (seen : Seen) (securities : List Security)
    → Each (λ security. is_done_with seen security ≡ false) (numbered (listed start) n securities)
listed-kept start n seen [] = tt
listed-kept start n seen (security ∷ securities) = (refl, listed-kept start (n + 1) seen securities)

pub opening-settled : (setup : Setup) → IsSettled (opening setup)
opening-settled setup = record {
  tried = refl;
  kept = listed-kept (first_moment setup.plan.window) (length (coarse_keys setup.plan)) (seen_of (opening setup).book) setup.plan.securities;
}
