-- A core follows the definition part by part. The securities that are added at a moment are followed only behind it: they are
-- silent and unmarked within it.
use Rattle.std.proofs.Common.{◌≡◌, ℕ, ◌+◌, ◌-◌, List, [], ◌∷◌, ◌++◌, Bool, true, false, refl, ap, sym, subst, ◌∙◌}
use Rattle.std.specs.Prelude.{Some, length, cond, not, nat_lt, if◌then◌else◌, map, filter, flat_map, take, find, ℤ, pos, ◌==◌, ◌&&◌}
use Rattle.std.specs.List.{fold, filter_map, AllByRecursion as Each}
use Rattle.std.specs.Option.{option_to_list}
use Rattle.std.specs.Ordering.{int_eq}
use Rattle.std.proofs.lemmas.List.{append-nil, append_assoc, map-append}
use Rattle.std.proofs.lemmas.List.Concat.{flat_map-append}
use Rattle.std.proofs.lemmas.List.Elements.{filter-append}
use Rattle.exchange_hours.specs.Grid.{is_closing}
use Rattle.exchange_hours.specs.Sessions.{moment}
use Rattle.lean_orders.specs.declared.desk.Command.{Command}
use Rattle.lean_orders.specs.declared.desk.Command.TheVariants.{Match, Account}
use Rattle.portfolio.proofs.SymbolLemmas.{same_self}
use Rattle.rule_strategy.specs.declared.rule.Rule.{Rule}
use Rattle.clock_steps.specs.Runs.{rests}
use Rattle.clock_book.specs.Handled.{after, replies}
use Rattle.clock_book.specs.Seen.{Seen, seen_of, given_out, learnt, AreNumbered}
use Rattle.clock_book.proofs.LearntLemmas.{commands_ids, commands-told}
use Rattle.clock_run.specs.Lines.{Line, removed}
use Rattle.clock_run.specs.Known.{Known}
use Rattle.clock_run.specs.States.{Setup, Subscription, State, symbol_of}
use Rattle.clock_run.specs.Histories.{History, history_of, histories}
use Rattle.clock_run.specs.Requests.{position_seen, orders_seen, security_requests, requests}
use Rattle.clock_run.specs.Moments.{told, equity_told, served, mark_of, marks, prices, most_requests, trading, closing, is_done_with, removals}
use Rattle.clock_run.specs.Idle.{IsQuiet}
use Rattle.clock_run.proofs.EachLemmas.{each-through, filter-none, filter-others}
use Rattle.clock_run.proofs.IdleLemmas.{marks-quiet, rule-quiet}
use Rattle.backtest_core.specs.declared.phase.Phase.{Phase}
use Rattle.backtest_core.specs.declared.phase.Phase.TheVariants.{Prices, Rules, Close}
use Rattle.backtest_core.specs.Standing.{Followed, Standing, history, with_feed, waits_as, without_first, named_as, named, named_all, followed_of, standing_of}
use Rattle.backtest_core.specs.Inside.{Inside, histories_in, asked, commands_of, is_over_in, entered, leaving, closed, lines_closed}
use Rattle.backtest_core.specs.Whole.{through}
use Rattle.backtest_core.specs.Served.{IsServed}
use Rattle.backtest_core.proofs.PhaseLemmas.{requests_behind, IsBefore, ended, entered-is, through-ended}

-- A core within a moment stands for a state of the definition, of whose securities it follows those that were active before.
pub record Tracks (setup : Setup) (t : ℕ) (known : Known) (old new : List Subscription) (i : Inside) (s : State) : Type 0 where
  pub securities : s.securities ≡ old ++ new
  pub followed : i.standing.followed ≡ map (followed_of known) old
  pub seen : i.standing.seen ≡ seen_of s.book
  pub requests : i.standing.requests ≡ s.requests
  pub setup_is : i.standing.setup ≡ setup
  pub at : i.at ≡ t
  pub numbered : AreNumbered 1 s.book.orders

-- the securities that are added at the moment have no bar, and are not marked
pub record AreSilent (known : Known) (new : List Subscription) : Type 0 where
  pub bars : Each (λ security. known.bars security.key ≡ []) new
  pub marked : Each (λ security. security.active.marked ≡ false) new

history-map : (known : Known) (xs : List Subscription) → map history (map (followed_of known) xs) ≡ map (history_of known) xs
history-map known [] = refl
history-map known (x ∷ xs) = ap (λ hs. history_of known x ∷ hs) (history-map known xs)

silent-quiet : (t : ℕ) (known : Known) (xs : List Subscription) → Each (λ security. known.bars security.key ≡ []) xs
    → Each (IsQuiet t) (map (history_of known) xs)
silent-quiet t known [] silent = tt
silent-quiet t known (x ∷ xs) silent = (
  subst (λ bars. IsQuiet t (record { symbol = symbol_of x; period = x.period; bars = bars })) (sym silent.0) tt,
  silent-quiet t known xs silent.1,
)

marks-append : (t : ℕ) (xs ys : List History) → marks t (xs ++ ys) ≡ marks t xs ++ marks t ys
marks-append t xs ys = flat_map-append (λ h. option_to_list (mark_of t h)) xs ys

requests-quiet_behind : (rules : List Rule) (seen : Seen) (t : ℕ) (hs more : List History) → Each (IsQuiet t) more
    → requests rules seen t (hs ++ more) ≡ requests rules seen t hs
unfolding requests
requests-quiet_behind rules seen t hs more quiet =
    let one : (rule : Rule) → flat_map (security_requests seen t rule) (hs ++ more) ≡ flat_map (security_requests seen t rule) hs =
    λ rule. flat_map-append (security_requests seen t rule) hs more
    ∙ (ap (λ none. flat_map (security_requests seen t rule) hs ++ none) (rule-quiet seen t rule more quiet)
    ∙ append-nil (flat_map (security_requests seen t rule) hs)) in
    λ j. flat_map (λ rule. one rule j) rules

-- nothing is held of a security, and no order of it is live
abbrev is_flat : Seen → Subscription → Bool
is_flat seen security =
    int_eq (position_seen seen (symbol_of security)) (pos 0) && (length (orders_seen seen (symbol_of security)) == 0)

abbrev fresh_of : Subscription → Followed
fresh_of x = record { security = x; bars = [] }

-- securities that wait become others with numbers from one on
abbrev pub Joins : ℕ → List Subscription → List Subscription → Type 0
Joins n [] [] = Unit {0}
Joins n [] (x ∷ xs) = ⊥
Joins n (w ∷ ws) [] = ⊥
Joins n (w ∷ ws) (x ∷ xs) = (with_feed n w ≡ x) × Joins (n + 1) ws xs

-- the first that waits is named first
named-first : (n : ℕ) (w : Subscription) (ws : List Subscription) (v : Standing)
    → named (symbol_of w) n (record v { waiting = w ∷ ws })
    ≡ record v { waiting = ws; followed = v.followed ++ fresh_of (with_feed n w) ∷ [] }
named-first n w ws v = λ j.
    named_as n (cond (same_self (symbol_of w) j) ws (w ∷ without_first (symbol_of w) ws))
    (cond (same_self (symbol_of w) j) (Some w) (find (waits_as (symbol_of w)) ws)) (record v { waiting = w ∷ ws })

named-joins : (n : ℕ) (ws xs : List Subscription) (v : Standing) → Joins n ws xs
    → named_all n ws (record v { waiting = ws }) ≡ record v { waiting = []; followed = v.followed ++ map (λ x. fresh_of x) xs }
unfolding named_all
named-joins n [] [] v joins = λ j. record v { waiting = []; followed = sym (append-nil v.followed) j }
named-joins n [] (x ∷ xs) v joins = elim joins [ ]
named-joins n (w ∷ ws) [] v joins = elim joins [ ]
named-joins n (w ∷ ws) (x ∷ xs) v joins =
    let first = record v { followed = v.followed ++ fresh_of (with_feed n w) ∷ [] } in
    ap (named_all (n + 1) ws) (named-first n w ws v)
    ∙ named-joins (n + 1) ws xs first joins.1
    ∙ (λ j. record v { waiting = []; followed = (v.followed ++ fresh_of (joins.0 j) ∷ []) ++ map (λ x. fresh_of x) xs })
    ∙ (λ j. record v { waiting = []; followed = append_assoc v.followed (fresh_of x ∷ []) (map (λ x. fresh_of x) xs) j })

module _ (setup : Setup) (t : ℕ) (known : Known) (old new : List Subscription) (silent : AreSilent known new) where
  -- the histories of those that are followed, and of all
  abbrev hs : List History
  hs = map (history_of known) old

  abbrev more : List History
  more = map (history_of known) new

  all-histories : (s : State) → s.securities ≡ old ++ new → histories known s ≡ hs ++ more
  all-histories s securities = ap (map (history_of known)) securities ∙ map-append (history_of known) old new

  quiet : Each (IsQuiet t) more
  quiet = silent-quiet t known new silent.bars

  same-marks : (s : State) → s.securities ≡ old ++ new → marks t hs ≡ marks t (histories known s)
  same-marks s securities =
      sym (ap (marks t) (all-histories s securities)
      ∙ (marks-append t hs more ∙ (ap (λ more. marks t hs ++ more) (marks-quiet t more quiet) ∙ append-nil (marks t hs))))

  same-requests : (rules : List Rule) (seen : Seen) (s : State) → s.securities ≡ old ++ new
      → requests rules seen t hs ≡ requests rules seen t (histories known s)
  same-requests rules seen s securities =
      sym (ap (requests rules seen t) (all-histories s securities) ∙ requests-quiet_behind rules seen t hs more quiet)

  -- a phase whose commands are known
  abbrev pub state_behind : Phase → List Command → List ℤ → State → State
  state_behind phase cs equities s = record s {
    book = after s.book cs;
    equities = equities;
    requests = requests_behind (Some phase) (length cs) s.requests;
  }

  pub ended-tracks : (phase : Phase) (cs : List Command) (equities : List ℤ) (i : Inside) (s : State) → Tracks setup t known old new i s
      → Tracks setup t known old new (ended phase cs (replies s.book cs) i) (state_behind phase cs equities s)
  ended-tracks phase cs equities i s tracks = record {
    securities = tracks.securities;
    followed = tracks.followed;
    seen = ap (λ seen. fold learnt (fold given_out seen cs) (replies s.book cs)) tracks.seen ∙ commands-told s.book cs tracks.numbered;
    requests = ap (requests_behind (Some phase) (length cs)) tracks.requests;
    setup_is = tracks.setup_is;
    at = tracks.at;
    numbered = commands_ids s.book cs tracks.numbered;
  }

  -- what a phase leaves
  pub record Passes (phase : Phase) (i j : Inside) (s now : State) (lines : List Line) : Type 0 where
    pub tracks : Tracks setup t known old new j now
    pub lines_are : j.lines ≡ i.lines ++ lines
    pub phase_is : j.phase ≡ Some phase
    pub news_are : j.news ≡ i.news

  pub passes : (phase : Phase) (cs : List Command) (equities : List ℤ) (i : Inside) (s : State) → IsBefore phase i → commands_of phase i ≡ cs
      → Tracks setup t known old new i s
      → Passes phase i (through phase s.book i) s (state_behind phase cs equities s) (filter_map (told t) (replies s.book cs))
  passes phase cs equities i s before commands tracks =
      let through_is : through phase s.book i ≡ ended phase cs (replies s.book cs) i =
      through-ended phase s.book i before ∙ ap (λ cs. ended phase cs (replies s.book cs) i) commands in
      subst (λ j. Passes phase i j s (state_behind phase cs equities s) (filter_map (told t) (replies s.book cs))) (sym through_is)
      (record {
        tracks = ended-tracks phase cs equities i s tracks;
        lines_are = ap (λ at. i.lines ++ filter_map (told at) (replies s.book cs)) tracks.at;
        phase_is = refl;
        news_are = refl;
      })

  -- a phase without commands changes nothing
  nothing-passes : (i : Inside) (s : State) → IsBefore Close i → commands_of Close i ≡ [] → Tracks setup t known old new i s
      → Passes Close i (through Close s.book i) s s []
  unfolding after replies
  nothing-passes i s before none tracks = passes Close [] s.equities i s before none tracks

  -- prices
  prices-commands : (i : Inside) (s : State) → Tracks setup t known old new i s → commands_of Prices i ≡ marks t (histories known s) ++ Match (moment t) ∷ []
  prices-commands i s tracks =
      ap (λ at. marks at (histories_in i) ++ Match (moment at) ∷ []) tracks.at
      ∙ (ap (λ fs. marks t (map history fs) ++ Match (moment t) ∷ []) tracks.followed
      ∙ (ap (λ hs. marks t hs ++ Match (moment t) ∷ []) (history-map known old)
      ∙ ap (λ ms. ms ++ Match (moment t) ∷ []) (same-marks s tracks.securities)))

  pub prices-pass : (i : Inside) (s : State) → IsBefore Prices i → Tracks setup t known old new i s
      → Passes Prices i (through Prices s.book i) s (prices t known s).state (prices t known s).lines
  prices-pass i s before tracks =
      let cs = marks t (histories known s) ++ Match (moment t) ∷ [] in
      passes Prices cs (s.equities ++ filter_map equity_told (replies s.book cs)) i s before (prices-commands i s tracks) tracks

  -- the book and the equities behind a phase are those of its commands
  served-by : (phase : Phase) (cs : List Command) (i : Inside) (s next : State) → IsBefore phase i → commands_of phase i ≡ cs → IsServed s cs next
      → IsServed s (entered phase i).left next
  served-by phase cs i s next before commands served =
      subst (λ cs. IsServed s cs next) (sym (ap (λ (e : Inside). e.left) (entered-is phase i before) ∙ commands)) served

  pub prices-served : (i : Inside) (s : State) → IsBefore Prices i → Tracks setup t known old new i s
      → IsServed s (entered Prices i).left (prices t known s).state
  prices-served i s before tracks =
      let cs = marks t (histories known s) ++ Match (moment t) ∷ [] in
      served-by Prices cs i s (prices t known s).state before (prices-commands i s tracks) (record { book = refl; equities = refl })

  -- trading
  asked-is : (i : Inside) (s : State) → Tracks setup t known old new i s
      → asked i ≡ requests setup.plan.rules (seen_of s.book) t (histories known s)
  asked-is i s tracks =
      ap (λ setup. requests setup.plan.rules i.standing.seen i.at (histories_in i)) tracks.setup_is
      ∙ (ap (λ at. requests setup.plan.rules i.standing.seen at (histories_in i)) tracks.at
      ∙ (ap (λ seen. requests setup.plan.rules seen t (histories_in i)) tracks.seen
      ∙ (ap (λ fs. requests setup.plan.rules (seen_of s.book) t (map history fs)) tracks.followed
      ∙ (ap (requests setup.plan.rules (seen_of s.book) t) (history-map known old)
      ∙ same-requests setup.plan.rules (seen_of s.book) s tracks.securities))))

  trading-commands : (i : Inside) (s : State) → Tracks setup t known old new i s
      → commands_of Rules i ≡ take (most_requests - s.requests) (requests setup.plan.rules (seen_of s.book) t (histories known s))
  trading-commands i s tracks =
      ap (take (most_requests - i.standing.requests)) (asked-is i s tracks)
      ∙ ap (λ n. take (most_requests - n) (requests setup.plan.rules (seen_of s.book) t (histories known s))) tracks.requests

  pub trading-pass : (i : Inside) (s : State) → IsBefore Rules i → Tracks setup t known old new i s
      → Passes Rules i (through Rules s.book i) s (trading setup t known s).state (trading setup t known s).lines
  trading-pass i s before tracks =
      let cs = take (most_requests - s.requests) (requests setup.plan.rules (seen_of s.book) t (histories known s)) in
      passes Rules cs (s.equities ++ filter_map equity_told (replies s.book cs)) i s before (trading-commands i s tracks) tracks

  pub trading-served : (i : Inside) (s : State) → IsBefore Rules i → Tracks setup t known old new i s
      → IsServed s (entered Rules i).left (trading setup t known s).state
  trading-served i s before tracks =
      let cs = take (most_requests - s.requests) (requests setup.plan.rules (seen_of s.book) t (histories known s)) in
      served-by Rules cs i s (trading setup t known s).state before (trading-commands i s tracks) (record { book = refl; equities = refl })

  pub over-is : (i : Inside) (s : State) → Tracks setup t known old new i s
      → is_over_in Rules i ≡ nat_lt (most_requests - s.requests) (length (requests setup.plan.rules (seen_of s.book) t (histories known s)))
  over-is i s tracks =
      ap (λ asked. nat_lt (most_requests - i.standing.requests) (length asked)) (asked-is i s tracks)
      ∙ ap (λ n. nat_lt (most_requests - n) (length (requests setup.plan.rules (seen_of s.book) t (histories known s)))) tracks.requests

  -- the close of a session
  closing-commands : (i : Inside) (s : State) → Tracks setup t known old new i s
      → (b : Bool) → is_closing setup.hours t ≡ b → commands_of Close i ≡ (if b then Account (moment t) ∷ [] else [])
  closing-commands i s tracks b is =
      ap (λ setup. if is_closing setup.hours i.at then Account (moment i.at) ∷ [] else []) tracks.setup_is
      ∙ (ap (λ at. if is_closing setup.hours at then Account (moment at) ∷ [] else []) tracks.at
      ∙ ap (λ b. if b then Account (moment t) ∷ [] else []) is)

  pub closing-pass : (i : Inside) (s : State) → IsBefore Close i → Tracks setup t known old new i s
      → Passes Close i (through Close s.book i) s (closing setup.hours t s).state (closing setup.hours t s).lines
  closing-pass i s before tracks = by (is_closing setup.hours t) refl
    where
      by : (b : Bool) → is_closing setup.hours t ≡ b
          → Passes Close i (through Close s.book i) s (closing setup.hours t s).state (closing setup.hours t s).lines
      by true is =
          let cs = Account (moment t) ∷ [] in
          subst (λ b. Passes Close i (through Close s.book i) s (if b then served t cs s else rests s).state (if b then served t cs s else rests s).lines) (sym is)
          (passes Close cs (s.equities ++ filter_map equity_told (replies s.book cs)) i s before (closing-commands i s tracks true is) tracks)
      by false is =
          subst (λ b. Passes Close i (through Close s.book i) s (if b then served t (Account (moment t) ∷ []) s else rests s).state (if b then served t (Account (moment t) ∷ []) s else rests s).lines) (sym is)
          (nothing-passes i s before (closing-commands i s tracks false is) tracks)

  nothing-served : (s : State) → IsServed s [] s
  unfolding after replies
  nothing-served s = record { book = refl; equities = append-nil s.equities }

  pub closing-served : (i : Inside) (s : State) → IsBefore Close i → Tracks setup t known old new i s
      → IsServed s (entered Close i).left (closing setup.hours t s).state
  closing-served i s before tracks = by (is_closing setup.hours t) refl
    where
      by : (b : Bool) → is_closing setup.hours t ≡ b → IsServed s (entered Close i).left (closing setup.hours t s).state
      by true is =
          subst (λ b. IsServed s (entered Close i).left (if b then served t (Account (moment t) ∷ []) s else rests s).state) (sym is)
          (served-by Close (Account (moment t) ∷ []) i s (served t (Account (moment t) ∷ []) s).state before (closing-commands i s tracks true is) (record { book = refl; equities = refl }))
      by false is =
          subst (λ b. IsServed s (entered Close i).left (if b then served t (Account (moment t) ∷ []) s else rests s).state) (sym is)
          (served-by Close [] i s s before (closing-commands i s tracks false is) (nothing-served s))

  -- what leaves and what stays
  done-map : (seen : Seen) (xs : List Subscription)
      → filter (λ f. is_done_with seen f.security) (map (followed_of known) xs) ≡ map (followed_of known) (filter (is_done_with seen) xs)
  done-map seen [] = refl
  done-map seen (x ∷ xs) = by (is_done_with seen x) (done-map seen xs)
    where
      by : (b : Bool)
          → filter (λ f. is_done_with seen f.security) (map (followed_of known) xs) ≡ map (followed_of known) (filter (is_done_with seen) xs)
          → cond b (followed_of known x ∷ filter (λ f. is_done_with seen f.security) (map (followed_of known) xs)) (filter (λ f. is_done_with seen f.security) (map (followed_of known) xs))
          ≡ map (followed_of known) (cond b (x ∷ filter (is_done_with seen) xs) (filter (is_done_with seen) xs))
      by true later = ap (λ fs. followed_of known x ∷ fs) later
      by false later = later

  stay-map : (seen : Seen) (xs : List Subscription)
      → filter (λ f. not (is_done_with seen f.security)) (map (followed_of known) xs) ≡ map (followed_of known) (filter (λ x. not (is_done_with seen x)) xs)
  stay-map seen [] = refl
  stay-map seen (x ∷ xs) = by (not (is_done_with seen x)) (stay-map seen xs)
    where
      by : (b : Bool)
          → filter (λ f. not (is_done_with seen f.security)) (map (followed_of known) xs) ≡ map (followed_of known) (filter (λ x. not (is_done_with seen x)) xs)
          → cond b (followed_of known x ∷ filter (λ f. not (is_done_with seen f.security)) (map (followed_of known) xs)) (filter (λ f. not (is_done_with seen f.security)) (map (followed_of known) xs))
          ≡ map (followed_of known) (cond b (x ∷ filter (λ x. not (is_done_with seen x)) xs) (filter (λ x. not (is_done_with seen x)) xs))
      by true later = ap (λ fs. followed_of known x ∷ fs) later
      by false later = later

  new-stay : (seen : Seen) (xs : List Subscription) → Each (λ security. security.active.marked ≡ false) xs
      → Each (λ security. is_done_with seen security ≡ false) xs
  new-stay seen xs marked = each-through xs (λ x unmarked. ap (λ b. b && is_flat seen x) unmarked) marked

  gone-are : (seen : Seen) (s : State) → s.securities ≡ old ++ new
      → filter (is_done_with seen) s.securities ≡ filter (is_done_with seen) old
  gone-are seen s securities =
      ap (filter (is_done_with seen)) securities
      ∙ (filter-append (is_done_with seen) old new
      ∙ (ap (λ none. filter (is_done_with seen) old ++ none) (filter-none (is_done_with seen) new (new-stay seen new silent.marked))
      ∙ append-nil (filter (is_done_with seen) old)))

  stay-are : (seen : Seen) (s : State) → s.securities ≡ old ++ new
      → filter (λ x. not (is_done_with seen x)) s.securities ≡ filter (λ x. not (is_done_with seen x)) old ++ new
  stay-are seen s securities =
      ap (filter (λ x. not (is_done_with seen x))) securities
      ∙ (filter-append (λ x. not (is_done_with seen x)) old new
      ∙ ap (λ all. filter (λ x. not (is_done_with seen x)) old ++ all) (filter-others (is_done_with seen) new (new-stay seen new silent.marked)))

  leaving-is : (i : Inside) (s : State) → Tracks setup t known old new i s
      → leaving i ≡ map (followed_of known) (filter (is_done_with (seen_of s.book)) s.securities)
  leaving-is i s tracks =
      ap (λ seen. filter (λ f. is_done_with seen f.security) i.standing.followed) tracks.seen
      ∙ (ap (filter (λ f. is_done_with (seen_of s.book) f.security)) tracks.followed
      ∙ (done-map (seen_of s.book) old ∙ ap (map (followed_of known)) (sym (gone-are (seen_of s.book) s tracks.securities))))

  removed-map : (xs : List Subscription) → map (λ f. removed t (symbol_of f.security)) (map (followed_of known) xs) ≡ map (λ x. removed t (symbol_of x)) xs
  removed-map [] = refl
  removed-map (x ∷ xs) = ap (λ lines. removed t (symbol_of x) ∷ lines) (removed-map xs)

  pub closed-lines : (i : Inside) (s : State) → Tracks setup t known old new i s → lines_closed i ≡ i.lines ++ (removals t s).lines
  closed-lines i s tracks =
      ap (λ at. i.lines ++ map (λ f. removed at (symbol_of f.security)) (leaving i)) tracks.at
      ∙ (ap (λ fs. i.lines ++ map (λ f. removed t (symbol_of f.security)) fs) (leaving-is i s tracks)
      ∙ ap (λ lines. i.lines ++ lines) (removed-map (filter (is_done_with (seen_of s.book)) s.securities)))

  pub closed-followed : (i : Inside) (s : State) → Tracks setup t known old new i s
      → (closed i).followed ≡ map (followed_of known) (filter (λ x. not (is_done_with (seen_of s.book) x)) old)
  closed-followed i s tracks =
      ap (λ seen. filter (λ f. not (is_done_with seen f.security)) i.standing.followed) tracks.seen
      ∙ (ap (filter (λ f. not (is_done_with (seen_of s.book) f.security))) tracks.followed
      ∙ stay-map (seen_of s.book) old)

  -- those that are added get their numbers
  silent-followed : (xs : List Subscription) → Each (λ security. known.bars security.key ≡ []) xs
      → map (λ x. fresh_of x) xs ≡ map (followed_of known) xs
  silent-followed [] none = refl
  silent-followed (x ∷ xs) none =
      ap (λ bars. record { security = x; bars = bars } ∷ map (λ x. fresh_of x) xs) (sym none.0)
      ∙ ap (λ fs. followed_of known x ∷ fs) (silent-followed xs none.1)

  pub closed-standing : (i : Inside) (s : State) (n : ℕ) → Tracks setup t known old new i s → Joins n (closed i).waiting new
      → named_all n (closed i).waiting (closed i) ≡ standing_of setup (removals t s).state known
  closed-standing i s n tracks joins =
      let stay = filter (λ x. not (is_done_with (seen_of s.book) x)) old in
      let followed : (closed i).followed ++ map (λ x. fresh_of x) new ≡ map (followed_of known) (removals t s).state.securities =
      ap (λ fs. fs ++ map (λ x. fresh_of x) new) (closed-followed i s tracks)
      ∙ (ap (λ fs. map (followed_of known) stay ++ fs) (silent-followed new silent.bars)
      ∙ (sym (map-append (followed_of known) stay new)
      ∙ ap (map (followed_of known)) (sym (stay-are (seen_of s.book) s tracks.securities)))) in
      named-joins n (closed i).waiting new (closed i) joins
      ∙ (λ j. record {
        setup = tracks.setup_is j;
        waiting = [];
        followed = followed j;
        seen = tracks.seen j;
        requests = tracks.requests j;
      })
