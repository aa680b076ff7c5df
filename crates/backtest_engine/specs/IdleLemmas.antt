-- An algorithm at a moment at which nothing happens: the arrival of nothing, the three phases and the close leave it as it was.
use Rattle.std.proofs.Common.{◌≡◌, ℕ, ◌+◌, ◌-◌, Bool, false, List, [], ◌∷◌, ◌++◌, length, Option, Some, None, refl, sym, ap, subst, ◌∙◌, arith, append-nil, if◌then◌else◌}
use Rattle.std.specs.Prelude.{ℤ, map, filter_map, take, nat_lt}
use Rattle.std.specs.List.{AllByRecursion as Each}
use Rattle.std.proofs.lemmas.Bool.Decides.{nat_tests}
use Rattle.exchange_hours.specs.Grid.{is_closing}
use Rattle.exchange_hours.specs.Sessions.{moment}
use Rattle.lean_orders.specs.declared.desk.Command.{Command}
use Rattle.lean_orders.specs.declared.desk.Command.TheVariants.{Match, Account}
use Rattle.lean_orders.specs.declared.desk.Reply.{Reply}
use Rattle.lean_orders.specs.declared.desk.Reply.TheVariants.{Done}
use Rattle.rule_strategy.specs.declared.universe.UniversePlan.{UniversePlan}
use Rattle.clock_steps.specs.Runs.{Ran, rests, before}
use Rattle.clock_book.specs.Books.{Book}
use Rattle.clock_book.specs.Handled.{after, replies}
use Rattle.clock_book.specs.Seen.{Seen}
use Rattle.clock_run.specs.Idle.{IsQuiet}
use Rattle.clock_run.specs.Lines.{removed}
use Rattle.clock_run.specs.States.{Setup, symbol_of}
use Rattle.clock_run.specs.Moments.{told, equity_told, most_requests, is_done_with}
use Rattle.clock_run.proofs.EachLemmas.{map-same, filter-none, filter-others, take-nil}
use Rattle.clock_run.proofs.IdleLemmas.{match-replies, match-book, marks-quiet, requests-quiet}
use Rattle.backtest_core.specs.declared.phase.Phase.TheVariants as core_phase
use Rattle.backtest_core.specs.Standing.{Followed, Standing, history}
use Rattle.backtest_core.specs.Inside.{Inside, inside, with_bars, choice, arrived_with, arrived, is_too_many, has_too_many, asked, commands_of, is_over_in, is_leaving, leaving, joining_all, closed}
use Rattle.backtest_core.specs.Text.{lines_bytes}
use Rattle.backtest_core.proofs.PhaseLemmas.{ended, through-ended}
use Rattle.backtest_engine.specs.declared.limits.Limit.{Limit}
use Rattle.backtest_engine.specs.declared.limits.Limit.TheVariants.{Securities, Requests}
use Rattle.backtest_engine.specs.declared.phase.Phase.{Phase}
use Rattle.backtest_engine.specs.declared.phase.Phase.TheVariants.{Prices, Rules, Close}
use Rattle.backtest_engine.specs.Algorithms.{Own, core_phase_of, unphased, rest_of, meaning_of}
use Rattle.backtest_engine.specs.Meaning.{State, arrival_of, phase, close_of, behind_arrival, behind_prices, behind_rules, moment_of}
use Rattle.backtest_engine.specs.Meets.{IsMet}
use Rattle.std.specs.Option.{option_map_or}

each-over : {X Y : Type 0} (P : Y → Type 0) (f : X → Y) (xs : List X) → Each (λ x. P (f x)) xs → Each P (map f xs)
each-over P f [] all = tt
each-over P f (x ∷ xs) all = (all.0, each-over P f xs all.1)

-- nothing arrives
none-chosen : (universe : Option UniversePlan) → choice universe [] ≡ None
none-chosen None = refl
none-chosen (Some universe) = refl

none-join : (universe : Option UniversePlan) (t : ℕ) → joining_all universe t [] ≡ []
none-join None t = refl
none-join (Some universe) t = refl

nothing-heard : (f : Followed) → with_bars [] f ≡ f
nothing-heard f = λ j. record f { bars = append-nil f.bars j }

none-arrived : (t : ℕ) (v : Standing) → arrived t [] v ≡ inside t [] v
none-arrived t v = λ j.
    arrived_with t (none-chosen v.setup.plan.universe j) (record v { followed = map-same (with_bars []) v.followed nothing-heard j })

not-too-many : (v : Standing) → has_too_many v [] ≡ false
not-too-many v = ap (λ c. option_map_or (is_too_many v) c false) (none-chosen v.setup.plan.universe)

module _ (setup : Setup) (followed : List Followed) (seen : Seen) (requests feeds : ℕ) (equities : List ℤ) (book : Book) where
  -- no security waits
  abbrev pub standing : Standing
  standing = record { setup = setup; waiting = []; followed = followed; seen = seen; requests = requests }

  abbrev pub own_at : ℕ → Own
  own_at t = record { inside = inside t [] standing; feeds = feeds; equities = equities }

  abbrev pub state_at : ℕ → State Own
  state_at t = record { own = own_at t; book = book }

  -- what a phase leaves
  abbrev outcome : Phase → ℕ → List Command → List Reply → Book → Bool → Ran (State Own) ℕ Limit
  outcome p t cs rs behind over = record {
    lines = lines_bytes (filter_map (told t) rs);
    state = record {
      own = record {
        inside = unphased (ended (core_phase_of p) cs rs (inside t [] standing));
        feeds = feeds;
        equities = equities ++ filter_map equity_told rs;
      };
      book = behind;
    };
    stop = if over then Some Requests else None;
  }

  abbrev asked_at : Phase → ℕ → List Command
  asked_at p t = commands_of (core_phase_of p) (inside t [] standing)

  phase-outcome : (p : Phase) (t : ℕ) → phase (meaning_of setup) p t [] (state_at t)
      ≡ outcome p t (asked_at p t) (replies book (asked_at p t)) (after book (asked_at p t)) (is_over_in (core_phase_of p) (inside t [] standing))
  unfolding meaning_of Rattle.backtest_core.specs.Whole.through
  phase-outcome p t = λ j. record {
    lines = lines_bytes (filter_map (told t) (replies book (asked_at p t)));
    state = record {
      own = record {
        inside = unphased (through-ended (core_phase_of p) book (inside t [] standing) refl j);
        feeds = feeds;
        equities = equities ++ filter_map equity_told (replies book (asked_at p t));
      };
      book = after book (asked_at p t);
    };
    stop = if is_over_in (core_phase_of p) (inside t [] standing) then Some Requests else None;
  }

  arrival-rests : (t : ℕ) → arrival_of (meaning_of setup) t [] (state_at 0) ≡ rests (state_at t)
  unfolding meaning_of
  arrival-rests t = λ j. record {
    lines = lines_bytes (none-arrived t standing j).lines;
    state = record { own = record { inside = none-arrived t standing j; feeds = feeds; equities = equities }; book = book };
    stop = if not-too-many standing j then Some Securities else None;
  }

  module _ (t : ℕ) (quiet : Each (λ f. IsQuiet t (history f)) followed) where
    all-quiet : Each (IsQuiet t) (map history followed)
    all-quiet = each-over (IsQuiet t) history followed quiet

    prices-rests : book.tried ≡ length book.marks → phase (meaning_of setup) Prices t [] (state_at t) ≡ rests (state_at t)
    prices-rests tried =
        let cs : asked_at Prices t ≡ Match (moment t) ∷ [] =
        ap (λ ms. ms ++ Match (moment t) ∷ []) (marks-quiet t (map history followed) all-quiet) in
        let rs : replies book (asked_at Prices t) ≡ Done ∷ [] = ap (replies book) cs ∙ match-replies book (moment t) tried in
        let behind : after book (asked_at Prices t) ≡ book = ap (after book) cs ∙ match-book book (moment t) tried in
        phase-outcome Prices t
        ∙ ((λ j. outcome Prices t (cs j) (rs j) (behind j) false)
        ∙ (λ j. rests (record { own = record { inside = inside t [] standing; feeds = feeds; equities = append-nil equities j }; book = book })))

    none-asked : asked (inside t [] standing) ≡ []
    none-asked = requests-quiet setup.plan.rules seen t (map history followed) all-quiet

    rules-rests : phase (meaning_of setup) Rules t [] (state_at t) ≡ rests (state_at t)
    unfolding after replies
    rules-rests =
        let cs : asked_at Rules t ≡ [] = ap (take (most_requests - requests)) none-asked ∙ take-nil (most_requests - requests) in
        let full : nat_lt (most_requests - requests) 0 ≡ false = grind (arith, nat_tests) in
        let over : is_over_in core_phase.Rules (inside t [] standing) ≡ false =
        ap (λ xs. nat_lt (most_requests - requests) (length xs)) none-asked ∙ full in
        let none : requests + 0 ≡ requests = omega arith in
        phase-outcome Rules t
        ∙ ((λ j. outcome Rules t (cs j) (replies book (cs j)) (after book (cs j)) (over j))
        ∙ (λ j. rests (record {
          own = record { inside = inside t [] (record standing { requests = none j }); feeds = feeds; equities = append-nil equities j };
          book = book;
        })))

  close-phase-rests : (t : ℕ) → is_closing setup.hours t ≡ false → phase (meaning_of setup) Close t [] (state_at t) ≡ rests (state_at t)
  unfolding after replies
  close-phase-rests t between =
      let cs : asked_at Close t ≡ [] = ap (λ b. if b then Account (moment t) ∷ [] else []) between in
      phase-outcome Close t
      ∙ ((λ j. outcome Close t (cs j) (replies book (cs j)) (after book (cs j)) false)
      ∙ (λ j. rests (record { own = record { inside = inside t [] standing; feeds = feeds; equities = append-nil equities j }; book = book })))

  module _ (t : ℕ) (kept : Each (λ f. is_done_with seen f.security ≡ false) followed) where
    none-leaves : leaving (inside t [] standing) ≡ []
    none-leaves = filter-none (is_leaving (inside t [] standing)) followed kept

    closed-same : closed (inside t [] standing) ≡ standing
    closed-same = λ j. record standing {
      waiting = none-join setup.plan.universe t j;
      followed = filter-others (is_leaving (inside t [] standing)) followed kept j;
    }

    close-rests : close_of (meaning_of setup) t [] (state_at t) ≡ rests (state_at 0)
    unfolding meaning_of Rattle.backtest_core.specs.Standing.named_all
    close-rests =
        let number : feeds + length (closed (inside t [] standing)).waiting ≡ feeds =
        ap (λ (v : Standing). feeds + length v.waiting) closed-same ∙ none-more feeds in
        λ j. record {
          lines = lines_bytes (map (λ f. removed t (symbol_of f.security)) (none-leaves j));
          state = record { own = record { inside = rest_of feeds (closed-same j); feeds = number j; equities = equities }; book = book };
          stop = None;
        }
      where
        none-more : (n : ℕ) → n + 0 ≡ n
        none-more n = omega arith

  idle-at : (t : ℕ) → Each (λ f. IsQuiet t (history f)) followed → Each (λ f. is_done_with seen f.security ≡ false) followed
      → book.tried ≡ length book.marks → is_closing setup.hours t ≡ false
      → moment_of (meaning_of setup) t [] (state_at 0) ≡ rests (state_at 0)
  unfolding moment_of
  idle-at t quiet kept tried between =
      let m = meaning_of setup in
      ap (λ ran. before ran (behind_arrival m t [])) (arrival-rests t)
      ∙ (ap (λ ran. before ran (behind_prices m t [])) (prices-rests t quiet tried)
      ∙ (ap (λ ran. before ran (behind_rules m t [])) (rules-rests t quiet)
      ∙ (ap (λ ran. before ran (close_of m t [])) (close-phase-rests t between)
      ∙ close-rests t kept)))

-- Nothing happens to an algorithm at a moment without a slice at which no session closes.
pub idle : (setup : Setup) (t : ℕ) (s : State Own) (v : Standing) → s.own.inside ≡ inside 0 [] v → v.waiting ≡ [] → v.setup ≡ setup
    → IsMet t [] s → is_closing setup.hours t ≡ false → moment_of (meaning_of setup) t [] s ≡ rests s
idle setup t s v is waits has met between =
    let same : s.own.inside.standing ≡ v = ap (λ (i : Inside). i.standing) is in
    let at : s ≡ state_at setup v.followed v.seen v.requests s.own.feeds s.own.equities s.book 0 =
    (λ j. record s { own = record s.own { inside = is j } })
    ∙ (λ j. record s { own = record s.own { inside = inside 0 [] (record v { setup = has j; waiting = waits j }) } }) in
    subst (λ now. moment_of (meaning_of setup) t [] now ≡ rests now) (sym at)
    (idle-at setup v.followed v.seen v.requests s.own.feeds s.own.equities s.book t
    (subst (λ (w : Standing). Each (λ f. IsQuiet t (history f)) w.followed) same met.takes.quiet)
    (subst (λ (w : Standing). Each (λ f. is_done_with w.seen f.security ≡ false) w.followed) same met.kept)
    met.tried between)
