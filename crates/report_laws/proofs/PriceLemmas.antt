-- The last price of an active security is the closing price of the last bar of its feed.
use Rattle.std.proofs.Common.{◌≡◌, ℕ, zero, suc, ◌+◌, ℤ, List, [], ◌∷◌, ◌++◌, Bool, true, false, cond, refl, sym, ap, subst, ◌∙◌, arith, if◌then◌else◌}
use Rattle.std.specs.Prelude.{Option, Some, None, map, filter, find, take, length, not, option_map}
use Rattle.std.specs.List.{AllByRecursion as Each, IsDistinct, last_or}
use Rattle.std.specs.Option.{option_to_list, option_or}
use Rattle.std.proofs.lemmas.List.{append-nil}
use Rattle.std.proofs.lemmas.List.Elements.{recursion_from_All}
use Rattle.lean_fixed.specs.Moments.{first_moment}
use Rattle.lean_fixed.specs.declared.resolution.Resolution.{Resolution}
use Rattle.lean_items.specs.declared.bar.Bar.{Bar}
use Rattle.lean_items.specs.declared.coarse_row.CoarseRow.{CoarseRow}
use Rattle.lean_items.specs.declared.feed_key.FeedKey.{FeedKey}
use Rattle.exchange_hours.specs.Grid.{is_closing}
use Rattle.exchange_hours.specs.Sessions.{moment}
use Rattle.lean_orders.specs.declared.desk.Command.TheVariants.{Account}
use Rattle.portfolio.specs.Symbols.{same_symbol}
use Rattle.portfolio.specs.Sums.{Mark, last_mark}
use Rattle.portfolio.proofs.SymbolLemmas.{same_self, same_turned}
use Rattle.rule_strategy.specs.declared.plan.Plan.{Plan}
use Rattle.rule_strategy.specs.declared.security.Security.{Security}
use Rattle.rule_strategy.specs.declared.universe.UniversePlan.{UniversePlan}
use Rattle.rule_strategy.specs.Validity.{IsPlan}
use Rattle.universe_rules.specs.Selected.{selected}
use Rattle.universe_state.specs.Active.{is_same, is_active}
use Rattle.universe_state.specs.Choice.{additions, room}
use Rattle.universe_state.specs.Different.{symbols_of}
use Rattle.universe_state.proofs.Joining.{added-once, added-new}
use Rattle.clock_steps.specs.Runs.{Ran, rests, then_on, before, run}
use Rattle.clock_steps.proofs.RunLemmas.{before-same, run-cut, run-one}
use Rattle.clock_feeds.specs.Bars.{ends_at}
use Rattle.clock_book.specs.Seen.{seen_of}
use Rattle.clock_run.specs.Lines.{Line, Halt}
use Rattle.clock_run.specs.Known.{Known, World}
use Rattle.clock_run.specs.States.{Setup, Subscription, State, symbol_of, actives_of, actives, numbered, equity_key, listed, joining, coarse_keys, opening}
use Rattle.clock_run.specs.Histories.{history_of, bar_now}
use Rattle.clock_run.specs.Moments.{Part, in_turn, marked_as, selection, served, prices, trading, closing, is_done_with, removals, refusal, moment_of}
use Rattle.clock_run.specs.Orderly.{IsOrderly}
use Rattle.clock_run.specs.Reports.{step_of, moments}
use Rattle.clock_run.proofs.BarLemmas.{last-push}
use Rattle.clock_run.proofs.EachLemmas.{each-append, each-take}
use Rattle.clock_run.proofs.NumberLemmas.{distinct-append, distinct-take, inactive-apart}
use Rattle.clock_run.proofs.OrderlyLemmas.{moments-orderly}
use Rattle.clock_run.proofs.TurnLemmas.{goes-past}
use Rattle.report_laws.specs.Closings.{closing_now, closings, selected_behind, closings_before, HasLastPrice}

-- ---- lists

module _ {X : Type 0} where
  each-both : {P Q R : X → Type 0} → ((x : X) → P x → Q x → R x) → (xs : List X) → Each P xs → Each Q xs → Each R xs
  each-both both [] first second = tt
  each-both both (x ∷ xs) first second = (both x first.0 second.0, each-both both xs first.1 second.1)

  pub each-filter : (P : X → Type 0) (p : X → Bool) (xs : List X) → Each P xs → Each P (filter p xs)
  each-filter P p [] all = tt
  each-filter P p (x ∷ xs) all = by (p x) (each-filter P p xs all.1)
    where
      by : (b : Bool) → Each P (filter p xs) → Each P (cond b (x ∷ filter p xs) (filter p xs))
      by true later = (all.0, later)
      by false later = later

  pub each-mapped : {Y : Type 0} (P : Y → Type 0) (f : X → Y) (xs : List X) → Each (λ x. P (f x)) xs → Each P (map f xs)
  each-mapped P f [] all = tt
  each-mapped P f (x ∷ xs) all = (all.0, each-mapped P f xs all.1)

  each-unmapped : {Y : Type 0} (P : Y → Type 0) (f : X → Y) (xs : List X) → Each P (map f xs) → Each (λ x. P (f x)) xs
  each-unmapped P f [] all = tt
  each-unmapped P f (x ∷ xs) all = (all.0, each-unmapped P f xs all.1)

  each-numbered : {Y : Type 0} (P : Y → Type 0) (f : ℕ → X → Y) (n : ℕ) (xs : List X) → ((n : ℕ) (x : X) → P (f n x)) → Each P (numbered f n xs)
  each-numbered P f n [] all = tt
  each-numbered P f n (x ∷ xs) all = (all n x, each-numbered P f (n + 1) xs all)

  or-nothing : (o : Option X) → option_or o None ≡ o
  or-nothing None = refl
  or-nothing (Some x) = refl

  or-assoc : (a b c : Option X) → option_or (option_or a b) c ≡ option_or a (option_or b c)
  or-assoc None b c = refl
  or-assoc (Some x) b c = refl

  nothing-before : (xs ys : List X) → xs ++ ys ≡ [] → xs ≡ []
  nothing-before [] ys is = refl
  nothing-before (x ∷ xs) ys is = absurd cc

-- ---- the last mark of a symbol

mark-both : (symbol : List ℕ) (earlier later : List Mark)
    → last_mark symbol (earlier ++ later) ≡ option_or (last_mark symbol later) (last_mark symbol earlier)
mark-both symbol [] later = sym (or-nothing (last_mark symbol later))
mark-both symbol (mark ∷ earlier) later =
    let own : Option ℤ = if same_symbol symbol mark.symbol then Some mark.price else None in
    ap (λ o. option_or o own) (mark-both symbol earlier later) ∙ or-assoc (last_mark symbol later) (last_mark symbol earlier) own

abbrev closing_of : Option Bar → Option ℤ
closing_of bar = option_map (λ bar. bar.closing.0) bar

module _ (t : ℕ) (known : Known) where
  abbrev own : Subscription → List Mark
  own x = option_to_list (closing_now t (history_of known x))

  abbrev ending : Subscription → Option Bar
  ending x = bar_now t (history_of known x)

  marks-own : (x : Subscription) → last_mark (symbol_of x) (own x) ≡ closing_of (ending x)
  marks-own x = by (ending x)
    where
      by : (bar : Option Bar)
          → last_mark (symbol_of x) (option_to_list (option_map (λ bar. record { symbol = symbol_of x; price = bar.closing.0 }) bar)) ≡ closing_of bar
      by None = refl
      by (Some bar) = ap (λ b. let o : Option ℤ = if b then Some bar.closing.0 else None in o) (same_self (symbol_of x))

  marks-other : (symbol : List ℕ) (x : Subscription) → same_symbol symbol (symbol_of x) ≡ false → last_mark symbol (own x) ≡ None
  marks-other symbol x other = by (ending x)
    where
      by : (bar : Option Bar)
          → last_mark symbol (option_to_list (option_map (λ bar. record { symbol = symbol_of x; price = bar.closing.0 }) bar)) ≡ None
      by None = refl
      by (Some bar) = ap (λ b. let o : Option ℤ = if b then Some bar.closing.0 else None in o) other

  abbrev all_of : List Subscription → List Mark
  all_of xs = closings t (map (history_of known) xs)

  marks-none : (symbol : List ℕ) (xs : List Subscription) → Each (λ x. same_symbol symbol (symbol_of x) ≡ false) xs → last_mark symbol (all_of xs) ≡ None
  marks-none symbol [] others = refl
  marks-none symbol (x ∷ xs) others =
      mark-both symbol (own x) (all_of xs)
      ∙ (ap (λ o. option_or o (last_mark symbol (own x))) (marks-none symbol xs others.1) ∙ marks-other symbol x others.0)

  -- the symbols of some securities differ
  abbrev pub Differ : List Subscription → Type 0
  Differ [] = Unit {0}
  Differ (x ∷ xs) = Each (λ y. same_symbol (symbol_of x) (symbol_of y) ≡ false) xs × Differ xs

  marks-each : (xs : List Subscription) → Differ xs → Each (λ x. last_mark (symbol_of x) (all_of xs) ≡ closing_of (ending x)) xs
  marks-each [] differ = tt
  marks-each (x ∷ xs) differ = (
    mark-both (symbol_of x) (own x) (all_of xs)
        ∙ (ap (λ o. option_or o (last_mark (symbol_of x) (own x))) (marks-none (symbol_of x) xs differ.0) ∙ marks-own x),
    each-both {P = λ y. same_symbol (symbol_of x) (symbol_of y) ≡ false} {Q = λ y. last_mark (symbol_of y) (all_of xs) ≡ closing_of (ending y)}
        (λ y other is.
        mark-both (symbol_of y) (own x) (all_of xs)
        ∙ (ap (λ o. option_or (last_mark (symbol_of y) (all_of xs)) o) (marks-other (symbol_of y) x (same_turned (symbol_of y) (symbol_of x) ∙ other))
        ∙ (or-nothing (last_mark (symbol_of y) (all_of xs)) ∙ is)))
        xs differ.0 (marks-each xs differ.1),
  )

-- ---- a price, one moment on

-- a feed goes on by the bar that ends at a moment
abbrev pub GoesOn : (FeedKey → List Bar) → (FeedKey → List Bar) → ℕ → Type 0
GoesOn earlier bars t = (key : FeedKey) → bars key ≡ earlier key ++ option_to_list (find (ends_at t) (bars key))

price-next : (earlier bars : List Bar) (found : Option Bar) (symbol : List ℕ) (quoted new : List Mark) → bars ≡ earlier ++ option_to_list found
    → last_mark symbol new ≡ closing_of found → ((bar : Bar) → last_or None earlier ≡ Some bar → last_mark symbol quoted ≡ Some bar.closing.0)
    → (bar : Bar) → last_or None bars ≡ Some bar → last_mark symbol (quoted ++ new) ≡ Some bar.closing.0
price-next earlier bars None symbol quoted new more own had bar last =
    mark-both symbol quoted new
    ∙ (ap (λ o. option_or o (last_mark symbol quoted)) own
    ∙ had bar (ap (last_or None) (sym (more ∙ append-nil earlier)) ∙ last))
price-next earlier bars (Some found) symbol quoted new more own had bar last =
    let same : Some found ≡ Some bar = sym (last-push None earlier found) ∙ (ap (last_or None) (sym more) ∙ last) in
    mark-both symbol quoted new
    ∙ (ap (λ o. option_or o (last_mark symbol quoted)) own
    ∙ ap closing_of same)

module _ (t : ℕ) (known : Known) (earlier : FeedKey → List Bar) (on : GoesOn earlier known.bars t) where
  prices-next : (xs : List Subscription) (quoted : List Mark) → Differ t known xs → Each (HasLastPrice earlier quoted) xs
      → Each (HasLastPrice known.bars (quoted ++ closings t (map (history_of known) xs))) xs
  prices-next xs quoted differ had =
      each-both {P = λ x. last_mark (symbol_of x) (all_of t known xs) ≡ closing_of (ending t known x)} {Q = HasLastPrice earlier quoted}
      (λ x own had. price-next (earlier x.key) (known.bars x.key) (ending t known x) (symbol_of x) quoted (all_of t known xs) (on x.key) own had)
      xs (marks-each t known xs differ) had

-- a feed that gave no bar yet has no last one
fresh-price : (bars : FeedKey → List Bar) (quoted : List Mark) (x : Subscription) → bars x.key ≡ [] → HasLastPrice bars quoted x
fresh-price bars quoted x none bar last = absurd (let h : None ≡ Some bar = ap (last_or None) (sym none) ∙ last in cc)

-- ---- the selection

symbols-map : (xs : List Subscription) → symbols_of (actives_of xs) ≡ map symbol_of xs
symbols-map [] = refl
symbols-map (x ∷ xs) = ap (λ rest. symbol_of x ∷ rest) (symbols-map xs)

symbols-after : (symbols : List (List ℕ)) (universe : UniversePlan) (t n : ℕ) (xs : List Subscription) (ys : List (List ℕ))
    → map symbol_of (map (marked_as symbols) xs ++ numbered (joining universe t) n ys) ≡ map symbol_of xs ++ ys
symbols-after symbols universe t n [] [] = refl
symbols-after symbols universe t n [] (y ∷ ys) = ap (λ rest. y ∷ rest) (symbols-after symbols universe t (n + 1) [] ys)
symbols-after symbols universe t n (x ∷ xs) ys = ap (λ rest. symbol_of x ∷ rest) (symbols-after symbols universe t n xs ys)

module _ (t : ℕ) (known : Known) where
  differ-of : (xs : List Subscription) → IsDistinct is_same (map symbol_of xs) → Differ t known xs
  unfolding IsDistinct
  differ-of [] distinct = tt
  differ-of (x ∷ xs) distinct = (
    each-unmapped (λ y. is_same (symbol_of x) y ≡ false) symbol_of xs distinct.0,
    differ-of xs distinct.1,
  )

  selected-differ : (plan : Plan) (universe : Option UniversePlan) (at : ℕ) (rows : List CoarseRow) (s : State) → IsOrderly plan s
      → Differ t known (selection universe at rows s).state.securities
  selected-differ plan None at rows s o = differ-of s.securities (subst (IsDistinct is_same) (symbols-map s.securities) o.symbols)
  selected-differ plan (Some universe) at [] s o = differ-of s.securities (subst (IsDistinct is_same) (symbols-map s.securities) o.symbols)
  selected-differ plan (Some universe) at (row ∷ rows) s o =
      let symbols = selected (row ∷ rows) universe.rule in
      let wanted = additions symbols (actives s) in
      let n = room (actives s) in
      let news = take n wanted in
      let new : Each (λ y. is_active (actives s) y ≡ false) wanted =
      recursion_from_All (λ y. is_active (actives s) y ≡ false) wanted (added-new symbols (actives s)) in
      let apart = inactive-apart (actives s) news (each-take (λ y. is_active (actives s) y ≡ false) n wanted new) in
      let distinct : IsDistinct is_same (symbols_of (actives s) ++ news) =
      distinct-append (symbols_of (actives s)) news o.symbols (distinct-take n wanted (added-once symbols (actives s))) apart in
      let are : symbols_of (actives s) ++ news ≡ map symbol_of (map (marked_as symbols) s.securities ++ numbered (joining universe at) s.feeds news) =
      ap (λ xs. xs ++ news) (symbols-map s.securities) ∙ sym (symbols-after symbols universe at s.feeds s.securities news) in
      differ-of (map (marked_as symbols) s.securities ++ numbered (joining universe at) s.feeds news) (subst (IsDistinct is_same) are distinct)

-- a security that joins has no bar yet, and one that is marked stays what it is
selected-had : (bars : FeedKey → List Bar) (quoted : List Mark) (universe : Option UniversePlan) (at : ℕ) (rows : List CoarseRow) (s : State)
    → ((symbol : List ℕ) (resolution : Resolution) (fill : Bool) → bars (equity_key at symbol resolution fill) ≡ [])
    → Each (HasLastPrice bars quoted) s.securities → Each (HasLastPrice bars quoted) (selection universe at rows s).state.securities
selected-had bars quoted None at rows s fresh had = had
selected-had bars quoted (Some universe) at [] s fresh had = had
selected-had bars quoted (Some universe) at (row ∷ rows) s fresh had =
    let symbols = selected (row ∷ rows) universe.rule in
    let news = take (room (actives s)) (additions symbols (actives s)) in
    each-append (HasLastPrice bars quoted) (map (marked_as symbols) s.securities) (numbered (joining universe at) s.feeds news)
    (each-mapped (HasLastPrice bars quoted) (marked_as symbols) s.securities had)
    (each-numbered (HasLastPrice bars quoted) (joining universe at) s.feeds news
    (λ n symbol. fresh-price bars quoted (joining universe at n symbol) (fresh symbol universe.resolution universe.fill)))

-- ---- what each part of a moment keeps

module _ (P : State → Type 0) where
  kept-on : (lines : List Line) (s : State) (stop : Option Halt) (next : State → Ran State Line Halt) → P s
      → ((s : State) → P s → P (next s).state) → P (then_on lines s stop next).state
  kept-on lines s None next here on = on s here
  kept-on lines s (Some halt) next here on = here

  pub kept-before : (ran : Ran State Line Halt) (next : State → Ran State Line Halt) → P ran.state
      → ((s : State) → P s → P (next s).state) → P (before ran next).state
  kept-before ran next = kept-on ran.lines ran.state ran.stop next

  kept-turn : (parts : List Part) → Each (λ part. (s : State) → P s → P (part s).state) parts → (s : State) → P s → P (in_turn parts s).state
  kept-turn [] keep s here = here
  kept-turn (part ∷ parts) keep s here = kept-before (part s) (in_turn parts) (keep.0 s here) (kept-turn parts keep.1)

  -- what holds behind the selection holds behind the moment
  pub kept-moment : (setup : Setup) (t : ℕ) (known : Known) → ((s : State) → P s → P (prices t known s).state)
      → ((s : State) → P s → P (trading setup t known s).state) → ((s : State) → P s → P (served t (Account (moment t) ∷ []) s).state)
      → ((s : State) → P s → P (removals t s).state) → (s : State) → P (selection setup.plan.universe t known.coarse s).state
      → P (moment_of setup t known s).state
  unfolding moment_of
  kept-moment setup t known price trade tell remove s here =
      let later : List Part = prices t known ∷ trading setup t known ∷ closing setup.hours t ∷ removals t ∷ refusal setup known ∷ [] in
      kept-before (selection setup.plan.universe t known.coarse s) (in_turn later) here
      (kept-turn later (price, (trade, ((λ s here. by (is_closing setup.hours t) s here), (remove, ((λ s here. here), tt))))))
    where
      by : (b : Bool) (s : State) → P s → P (if b then served t (Account (moment t) ∷ []) s else rests s).state
      by true s here = tell s here
      by false s here = here

moment-keeps : (P : Subscription → Type 0) (setup : Setup) (t : ℕ) (known : Known) (s : State)
    → Each P (selection setup.plan.universe t known.coarse s).state.securities → Each P (moment_of setup t known s).state.securities
moment-keeps P setup t known =
    kept-moment (λ s. Each P s.securities) setup t known (λ s here. here) (λ s here. here) (λ s here. here)
    (λ s here. each-filter P (λ security. not (is_done_with (seen_of s.book) security)) s.securities here)

-- ---- all moments

-- the bars of a world go on moment by moment, and there is none up to the start of a feed
pub record Grows (world : World) : Type 0 where
  pub more : (t : ℕ) → GoesOn (world t).bars (world (t + 1)).bars (t + 1)
  pub fresh : (t : ℕ) (symbol : List ℕ) (resolution : Resolution) (fill : Bool) → (world t).bars (equity_key t symbol resolution fill) ≡ []

-- `eve` is the moment before the first one
module _ (setup : Setup) (world : World) (valid : IsPlan setup.plan) (grows : Grows world) (eve : ℕ) (first_is : first_moment setup.plan.window ≡ eve + 1) where
  abbrev first : ℕ
  first = first_moment setup.plan.window

  earlier-fresh : (u : ℕ) (symbol : List ℕ) (resolution : Resolution) (fill : Bool) → (world u).bars (equity_key (u + 1) symbol resolution fill) ≡ []
  earlier-fresh u symbol resolution fill =
      let key = equity_key (u + 1) symbol resolution fill in
      nothing-before ((world u).bars key) (option_to_list (find (ends_at (u + 1)) ((world (u + 1)).bars key)))
      (sym (grows.more u key) ∙ grows.fresh (u + 1) symbol resolution fill)

  selected-price : (n : ℕ) → Each (HasLastPrice (world (eve + n)).bars (closings_before setup world n)) (moments setup world n).state.securities
      → Each (HasLastPrice (world (first + n)).bars (closings_before setup world (suc n))) (selected_behind setup world n).securities
  selected-price n had =
      let s = (moments setup world n).state in
      let at : first + n ≡ eve + n + 1 = omega (arith, first_is) in
      let t = first + n in
      let known = world t in
      let on : GoesOn (world (eve + n)).bars (world (first + n)).bars (first + n) =
      subst (λ u. GoesOn (world (eve + n)).bars (world u).bars u) (sym at) (grows.more (eve + n)) in
      let fresh : (symbol : List ℕ) (resolution : Resolution) (fill : Bool) → (world (eve + n)).bars (equity_key (first + n) symbol resolution fill) ≡ [] =
      subst (λ u. (symbol : List ℕ) (resolution : Resolution) (fill : Bool) → (world (eve + n)).bars (equity_key u symbol resolution fill) ≡ [])
      (sym at) (earlier-fresh (eve + n)) in
      prices-next t known (world (eve + n)).bars on (selected_behind setup world n).securities (closings_before setup world n)
      (selected-differ t known setup.plan setup.plan.universe t known.coarse s (moments-orderly setup world n valid))
      (selected-had (world (eve + n)).bars (closings_before setup world n) setup.plan.universe t known.coarse s fresh had)

  listed-price : (n : ℕ) (xs : List Security) → Each (HasLastPrice (world eve).bars []) (numbered (listed first) n xs)
  listed-price n xs =
      each-numbered (HasLastPrice (world eve).bars []) (listed first) n xs
      (λ n x. fresh-price (world eve).bars [] (listed first n x)
      (subst (λ u. (world eve).bars (equity_key u x.symbol x.resolution x.fill) ≡ []) (sym first_is) (earlier-fresh eve x.symbol x.resolution x.fill)))

  pub all-priced : (n : ℕ) → (moments setup world n).stop ≡ None
      → Each (HasLastPrice (world (eve + n)).bars (closings_before setup world n)) (moments setup world n).state.securities
  unfolding run
  all-priced zero none =
      let at : eve + zero ≡ eve = omega arith in
      subst (λ u. Each (HasLastPrice (world u).bars []) (opening setup).securities) (sym at)
      (listed-price (length (coarse_keys setup.plan)) setup.plan.securities)
  all-priced (suc n) none =
      let step = step_of setup world in
      let ran = moments setup world n in
      let t = first + n in
      let count : suc n ≡ n + 1 = omega arith in
      let one : moments setup world (suc n) ≡ before ran (step (first + n)) =
      ap (moments setup world) count ∙ (run-cut step n 1 first (opening setup) ∙ before-same ran (run step 1 (first + n)) (step (first + n)) (λ s. run-one step (first + n) s)) in
      let past = goes-past ran (step (first + n)) (ap (λ r. r.stop) (sym one) ∙ none) in
      let at : eve + suc n ≡ first + n = omega (arith, first_is) in
      let here : Each (HasLastPrice (world (first + n)).bars (closings_before setup world (suc n))) (selected_behind setup world n).securities =
      selected-price n (all-priced n past.first_goes_on) in
      let state : (moments setup world (suc n)).state ≡ (step (first + n) ran.state).state = ap (λ r. r.state) one ∙ past.state in
      subst (λ u. Each (HasLastPrice (world u).bars (closings_before setup world (suc n))) (moments setup world (suc n)).state.securities) (sym at)
      (subst (λ s. Each (HasLastPrice (world (first + n)).bars (closings_before setup world (suc n))) s.securities) (sym state)
      (moment-keeps (HasLastPrice (world (first + n)).bars (closings_before setup world (suc n))) setup t (world t) ran.state here))

  -- behind the selection of each moment of a backtest that has not stopped
  pub last-prices : (n : ℕ) → (moments setup world n).stop ≡ None
      → Each (HasLastPrice (world (first + n)).bars (closings_before setup world (suc n))) (selected_behind setup world n).securities
  last-prices n none = selected-price n (all-priced n none)
