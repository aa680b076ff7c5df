-- At an idle moment each part rests.
use Rattle.std.proofs.Common.{◌≡◌, ℕ, ◌+◌, ◌-◌, List, [], ◌∷◌, ◌++◌, false, refl, ap, ◌∙◌, sym, arith}
use Rattle.std.specs.Prelude.{Option, Some, None, ℤ, pos, negsuc, map, filter, flat_map, length, is_some, not, option_map, option_and_then, nat_lt, ◌==◌, unsigned_abs, if◌then◌else◌}
use Rattle.std.specs.List.{AllByRecursion as Each, filter_map, last_or}
use Rattle.std.specs.Option.{option_map_or, option_to_list}
use Rattle.std.specs.Ordering.{int_eq}
use Rattle.std.proofs.lemmas.List.{append-nil, drop_all}
use Rattle.std.proofs.lemmas.Bool.Decides.{nat_tests}
use Rattle.lean_fixed.specs.declared.time.Moment.{Moment}
use Rattle.lean_items.specs.declared.bar.Bar.{Bar}
use Rattle.lean_items.specs.declared.coarse_row.CoarseRow.{CoarseRow}
use Rattle.exchange_hours.specs.Entries.{Entries}
use Rattle.exchange_hours.specs.Grid.{is_closing}
use Rattle.exchange_hours.specs.Sessions.{moment}
use Rattle.lean_orders.specs.declared.order.Order.{Order}
use Rattle.lean_orders.specs.declared.desk.Command.{Command}
use Rattle.lean_orders.specs.declared.desk.Command.TheVariants.{Mark, Match, Account as AskAccount}
use Rattle.lean_orders.specs.declared.desk.Reply.TheVariants.{Done}
use Rattle.consolidators.specs.Buckets.{bucket, buckets, completes, is_complete_at}
use Rattle.clock_feeds.specs.Bars.{ends_at}
use Rattle.clock_steps.specs.Runs.{rests, before}
use Rattle.clock_book.specs.Books.{Book, is_live, last_real_bar, bar_to_try}
use Rattle.clock_book.specs.Matches.{bar_of, set_off, fill_on, after_trigger, matched, after_match, match_event, in_state, filled_event}
use Rattle.lean_orders.specs.declared.order.OrderState.TheVariants.{Filled}
use Rattle.clock_book.specs.Handled.{after, replies}
use Rattle.clock_book.specs.Seen.{Seen, seen_of}
use Rattle.rule_strategy.specs.declared.rule.Rule.{Rule}
use Rattle.rule_strategy.specs.declared.universe.UniversePlan.{UniversePlan}
use Rattle.clock_run.specs.Known.{Known}
use Rattle.clock_run.specs.Lines.{removed, too_many_requests}
use Rattle.clock_run.specs.States.{Setup, State, symbol_of, active_keys}
use Rattle.clock_run.specs.Histories.{History, histories, given_at, fresh_bar}
use Rattle.clock_run.specs.Requests.{fresh_requests, security_requests, requests}
use Rattle.clock_run.specs.Moments.{Part, in_turn, selection, told, equity_told, served, price_bar, mark_of, marks, prices, most_requests, stop_past, counted, traded, trading, closing, is_done_with, removals, first_refused, refusal, parts_of, moment_of}
use Rattle.clock_run.specs.Idle.{HasNoRows, IsQuiet, IsTried, IsIdle}
use Rattle.clock_run.proofs.EachLemmas.{filter_map-none, flat_map-none, flat_map-all_none, map-same, filter-none, filter-others, find-none, find-fails, each-all, each-through, take-nil, if-none}

pub all-still : (parts : List Part) (s : State) → Each (λ part. part s ≡ rests s) parts → in_turn parts s ≡ rests s
all-still [] s still = refl
all-still (part ∷ parts) s still = ap (λ r. before r (in_turn parts)) still.0 ∙ all-still parts s still.1

-- a match without a new mark
none-tried : (book : Book) → book.tried ≡ length book.marks → (symbol : List ℕ) → bar_to_try book symbol ≡ None
none-tried book tried symbol = ap (last_real_bar symbol) (drop_all book.tried book.marks (omega (arith, tried)))

no-bar : (book : Book) → book.tried ≡ length book.marks → (order : Order) → bar_of book order ≡ None
no-bar book tried order = if-none (is_live order.state) (bar_to_try book order.symbol) (none-tried book tried order.symbol)

none-matched : (book : Book) → book.tried ≡ length book.marks → (order : Order) → matched book order ≡ None
none-matched book tried order = ap (option_and_then (fill_on book.costs book.hours order)) (no-bar book tried order)

-- an order that is not tried stays as it is
order-stays : (book : Book) → book.tried ≡ length book.marks → (order : Order) → after_match book order ≡ order
order-stays book tried order =
    ap (λ fill. if is_some fill then in_state Filled (after_trigger book order) else after_trigger book order) (none-matched book tried order)
    ∙ ap (λ bar. option_map_or (set_off book.hours order) bar order) (no-bar book tried order)

pub match-replies : (book : Book) (at : Moment) → book.tried ≡ length book.marks → replies book (Match at ∷ []) ≡ Done ∷ []
unfolding replies
match-replies book at tried =
    ap (λ events. (events ++ Done ∷ []) ++ [])
    (filter_map-none (match_event book at) book.orders (λ order. ap (option_map (filled_event at order)) (none-matched book tried order)))

pub match-book : (book : Book) (at : Moment) → book.tried ≡ length book.marks → after book (Match at ∷ []) ≡ book
unfolding after
match-book book at tried =
    let orders : map (after_match book) book.orders ≡ book.orders =
    map-same (after_match book) book.orders (order-stays book tried) in
    let fills : book.fills ++ filter_map (matched book) book.orders ≡ book.fills =
    ap (λ fills. book.fills ++ fills) (filter_map-none (matched book) book.orders (none-matched book tried))
    ∙ append-nil book.fills in
    λ i. record book { orders = orders i; fills = fills i; tried = sym tried i }

-- no bar ends: no mark, nothing fresh
quiet-unmarked : (t : ℕ) (h : History) → IsQuiet t h → option_to_list (mark_of t h) ≡ []
quiet-unmarked t h quiet = ap (λ o. option_to_list (option_map (λ bar. Mark (moment t) h.symbol (price_bar bar)) o)) (find-none (ends_at t) h.bars quiet)

other-end : (z : ℤ) (t : ℕ) → (unsigned_abs z == t) ≡ false → int_eq z (pos t) ≡ false
other-end (pos n) t other = grind (arith, nat_tests)
other-end (negsuc n) t other = refl

incomplete : (period t : ℕ) (bars : List Bar) → Each (λ bar. ends_at t bar ≡ false) bars → (k : ℤ)
    → is_complete_at period bars (pos t) k ≡ false
incomplete period t bars quiet k =
    find-fails (λ bar. int_eq bar.end.0 (pos t)) (completes period k) bars
    (each-through bars (λ bar other. other-end bar.end.0 t other) quiet)

none-given : (period : Option ℕ) (t : ℕ) (bars : List Bar) → Each (λ bar. ends_at t bar ≡ false) bars → given_at period bars t ≡ []
none-given None t bars quiet = filter-none (ends_at t) bars quiet
none-given (Some period) t bars quiet =
    ap (filter_map (bucket period bars))
    (filter-none (is_complete_at period bars (pos t)) (buckets period bars) (each-all (buckets period bars) (incomplete period t bars quiet)))

pub fresh-quiet : (t : ℕ) (h : History) → IsQuiet t h → fresh_bar t h ≡ None
fresh-quiet t h quiet = ap (last_or None) (none-given h.period t h.bars quiet)

none-asked : (seen : Seen) (t : ℕ) (rule : Rule) (h : History) → IsQuiet t h → security_requests seen t rule h ≡ []
none-asked seen t rule h quiet = ap (fresh_requests rule seen t h) (fresh-quiet t h quiet)

pub rule-quiet : (seen : Seen) (t : ℕ) (rule : Rule) (hs : List History) → Each (IsQuiet t) hs
    → flat_map (security_requests seen t rule) hs ≡ []
rule-quiet seen t rule hs quiet =
    flat_map-none (security_requests seen t rule) hs (each-through hs (λ h q. none-asked seen t rule h q) quiet)

pub requests-quiet : (rules : List Rule) (seen : Seen) (t : ℕ) (hs : List History) → Each (IsQuiet t) hs → requests rules seen t hs ≡ []
unfolding requests
requests-quiet rules seen t hs quiet =
    flat_map-all_none _ rules (λ rule. rule-quiet seen t rule hs quiet)

pub marks-quiet : (t : ℕ) (hs : List History) → Each (IsQuiet t) hs → marks t hs ≡ []
marks-quiet t hs quiet = flat_map-none _ hs (each-through hs (λ h q. quiet-unmarked t h q) quiet)

-- the parts
selection-still : (universe : Option UniversePlan) (t : ℕ) (rows : List CoarseRow) (s : State) → HasNoRows universe rows
    → selection universe t rows s ≡ rests s
selection-still None t rows s none = refl
selection-still (Some universe) t rows s none = ap (λ rows. selection (Some universe) t rows s) none

served-match : (t : ℕ) (at : Moment) (s : State) → IsTried s → served t (Match at ∷ []) s ≡ rests s
served-match t at s tried =
    let heard : replies s.book (Match at ∷ []) ≡ Done ∷ [] = match-replies s.book at tried in
    let lines : filter_map (told t) (replies s.book (Match at ∷ [])) ≡ [] = ap (filter_map (told t)) heard in
    let equities : s.equities ++ filter_map equity_told (replies s.book (Match at ∷ [])) ≡ s.equities =
    ap (λ heard. s.equities ++ filter_map equity_told heard) heard ∙ append-nil s.equities in
    let book : after s.book (Match at ∷ []) ≡ s.book = match-book s.book at tried in
    λ i. record { lines = lines i; state = record s { book = book i; equities = equities i }; stop = None }

prices-still : (t : ℕ) (known : Known) (s : State) → Each (IsQuiet t) (histories known s) → IsTried s → prices t known s ≡ rests s
prices-still t known s quiet tried =
    ap (λ ms. served t (ms ++ Match (moment t) ∷ []) s) (marks-quiet t (histories known s) quiet)
    ∙ served-match t (moment t) s tried

served-none : (t : ℕ) (s : State) → served t [] s ≡ rests s
unfolding after replies
served-none t s =
    λ i. record { lines = []; state = record s { equities = append-nil s.equities i }; stop = None }

abbrev no_commands : List Command
no_commands = []

traded-none : (t : ℕ) (s : State) → traded t [] s ≡ rests s
traded-none t s =
    let kept : s.requests + 0 ≡ s.requests = omega arith in
    let still : counted 0 (served t [] s) ≡ rests s =
    ap (counted 0) (served-none t s) ∙ (λ i. rests (record s { requests = kept i })) in
    let full : nat_lt (most_requests - s.requests) 0 ≡ false = grind (arith, nat_tests) in
    let stop : stop_past (most_requests - s.requests) too_many_requests no_commands ≡ None =
    ap (λ b. if b then Some too_many_requests else None) full in
    ap (λ handled. record (counted (length handled) (served t handled s)) { stop = stop_past (most_requests - s.requests) too_many_requests no_commands })
    (take-nil (most_requests - s.requests))
    ∙ (λ i. record { lines = (still i).lines; state = (still i).state; stop = stop i })

trading-still : (setup : Setup) (t : ℕ) (known : Known) (s : State) → Each (IsQuiet t) (histories known s)
    → trading setup t known s ≡ rests s
trading-still setup t known s quiet =
    ap (λ asked. traded t asked s) (requests-quiet setup.plan.rules (seen_of s.book) t (histories known s) quiet)
    ∙ traded-none t s

closing-still : (hours : Entries) (t : ℕ) (s : State) → is_closing hours t ≡ false → closing hours t s ≡ rests s
closing-still hours t s between = ap (λ b. if b then served t (AskAccount (moment t) ∷ []) s else rests s) between

removals-still : (t : ℕ) (s : State) → Each (λ security. is_done_with (seen_of s.book) security ≡ false) s.securities
    → removals t s ≡ rests s
removals-still t s kept =
    let gone : filter (is_done_with (seen_of s.book)) s.securities ≡ [] = filter-none (is_done_with (seen_of s.book)) s.securities kept in
    let stay : filter (λ security. not (is_done_with (seen_of s.book) security)) s.securities ≡ s.securities =
    filter-others (is_done_with (seen_of s.book)) s.securities kept in
    λ i. record { lines = map (λ security. removed t (symbol_of security)) (gone i); state = record s { securities = stay i }; stop = None }

refusal-still : (setup : Setup) (known : Known) (s : State) → first_refused known (active_keys setup.plan s) ≡ None
    → refusal setup known s ≡ rests s
refusal-still setup known s sound = λ i. record { lines = []; state = s; stop = sound i }

pub idle-rests : (setup : Setup) (t : ℕ) (known : Known) (s : State) → IsIdle setup t known s → moment_of setup t known s ≡ rests s
unfolding moment_of
idle-rests setup t known s idle =
    all-still (parts_of setup t known) s (
      selection-still setup.plan.universe t known.coarse s idle.rows,
      (
        prices-still t known s idle.quiet idle.tried,
        (
          trading-still setup t known s idle.quiet,
          (
            closing-still setup.hours t s idle.between,
            (
              removals-still t s idle.kept,
              (refusal-still setup known s idle.sound, tt),
            ),
          ),
        ),
      ),
    )
