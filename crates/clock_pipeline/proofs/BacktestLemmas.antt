-- Where all replies of the book were heard, the moments of the core over what is known are those of the backtest.
use Rattle.std.proofs.Common.{◌≡◌, ℕ, zero, suc, ◌+◌, ◌-◌, ◌≤◌, Bool, true, false, List, [], ◌∷◌, ◌++◌, length, map, refl, ap, sym, subst, ◌∙◌, arith, append-nil, append_assoc, length-append}
use Rattle.std.specs.List.{filter_map}
use Rattle.std.specs.Prelude.{Option, Some, None, nat_le, take, option_map, if◌then◌else◌}
use Rattle.std.proofs.lemmas.List.{append_cancel_left, length-map}
use Rattle.lean_fixed.specs.Moments.{first_moment}
use Rattle.lean_items.specs.declared.coarse_row.CoarseRow.{CoarseRow}
use Rattle.lean_items.specs.declared.feed_key.FeedKey.{FeedKey}
use Rattle.exchange_hours.specs.Entries.{Entries}
use Rattle.exchange_hours.specs.Grid.{is_closing}
use Rattle.exchange_hours.specs.Sessions.{moment}
use Rattle.lean_orders.specs.declared.desk.Command.{Command}
use Rattle.lean_orders.specs.declared.desk.Command.TheVariants.{Match, Account as AskAccount}
use Rattle.lean_orders.specs.declared.desk.Reply.{Reply}
use Rattle.universe_rules.specs.Selected.{selected}
use Rattle.universe_state.specs.Choice.{additions, room}
use Rattle.clock_steps.specs.Runs.{Ran, rests, behind, then_on, before, run, IsFrontOf}
use Rattle.clock_book.specs.Handled.{after, replies}
use Rattle.clock_book.specs.Seen.{seen_of, AreNumbered}
use Rattle.clock_book.proofs.LearntLemmas.{commands_ids, commands-told}
use Rattle.rule_strategy.specs.declared.universe.UniversePlan.{UniversePlan}
use Rattle.clock_run.specs.Lines.{Line, Halt, added, too_many_securities, too_many_requests}
use Rattle.clock_run.specs.Known.{Known}
use Rattle.clock_run.specs.Histories.{History, histories}
use Rattle.clock_run.specs.Requests.{requests}
use Rattle.clock_run.specs.Reports.{step_of, moments}
use Rattle.clock_run.specs.States.{Setup, State, actives_of, numbered, joining, listed, coarse_keys, opening as opening_state}
use Rattle.clock_run.specs.Moments as clock
use Rattle.clock_run.specs.Moments.{stop_past, marked_as, marks, most_requests, told, equity_told}
use Rattle.clock_run.proofs.NumberLemmas.{length-numbered}
use Rattle.clock_pipeline.specs.Replies.{dones, replies_to, replies_behind}
use Rattle.clock_pipeline.specs.Cores.{Core, Pause, halts, Part, histories_in, first_book, first_keys}
use Rattle.clock_pipeline.specs.Moments.{in_turn, with_replies, answered, joined_key, selection, prices, counted, trading, closing, removals, refusal, parts_of, moment_of}
use Rattle.clock_pipeline.specs.Pipelines.{Pipeline, first, world}
use Rattle.clock_pipeline.specs.Steps.{is_heard}
use Rattle.clock_pipeline.proofs.LaneLemmas.{front-of}
use Rattle.clock_pipeline.proofs.ReplyLemmas.{replies-split, replies_to-more, replies_to-book, after-append, after-none, replies-append, replies-none}
use Rattle.clock_pipeline.proofs.KeepLemmas.{Keeps, le-of, heard-before, asked-before, answered_if, rests-keep, before-keeps, trading-keeps, closing-keeps, removals-keep, refusal-keeps, counted-keep, chosen-keeps, parts-keep, run-keeps}
use Rattle.clock_pipeline.proofs.WorldLemmas.{view_known, step_known, core_known, known-keeps}

-- a run of the backtest from a state
abbrev ClockPart : Type 0
ClockPart = State → Ran State Line Halt

-- the core that stands for a state
abbrev pub stood : List FeedKey → List Command → List Reply → State → Core
stood keys asked heard s = record {
  securities = s.securities;
  keys = keys;
  seen = seen_of s.book;
  requests = s.requests;
  equities = s.equities;
  asked = asked;
  heard = heard;
}

-- all commands that are ever asked, and all replies that were heard
module _ (setup : Setup) (all : List Command) (told_all : List Reply) (ok : IsFrontOf told_all (replies (first_book setup) all)) where
  pub record Facts (keys : List FeedKey) (asked : List Command) (heard : List Reply) (s : State) : Type 0 where
    pub feeds : length keys ≡ s.feeds
    pub numbered : AreNumbered 1 s.book.orders
    pub book : s.book ≡ after (first_book setup) asked
    pub heard_is : told_all ≡ replies (first_book setup) asked ++ heard

  pub record Matches (r : Ran Core Line Pause) (q : Ran State Line Halt) : Type 0 where
    pub keys : List FeedKey
    pub asked : List Command
    pub heard : List Reply
    pub is : r ≡ record { lines = q.lines; state = stood keys asked heard q.state; stop = option_map halts q.stop }
    pub facts : Facts keys asked heard q.state

  abbrev pub Sim : Part → ClockPart → Type 0
  Sim part clock_part =
      (keys : List FeedKey) (asked : List Command) (heard : List Reply) (s : State) → Facts keys asked heard s
      → IsFrontOf (part (stood keys asked heard s)).state.asked all → is_heard (part (stood keys asked heard s)).stop ≡ true
      → Matches (part (stood keys asked heard s)) (clock_part s)

  -- ---- parts in turn

  sim-then : (next : Part) (clock_next : ClockPart) → Sim next clock_next → (ls : List Line) (keys : List FeedKey) (asked : List Command) (heard : List Reply)
      (s : State) (z : Option Halt) → Facts keys asked heard s
      → IsFrontOf (then_on ls (stood keys asked heard s) (option_map halts z) next).state.asked all
      → is_heard (then_on ls (stood keys asked heard s) (option_map halts z) next).stop ≡ true
      → Matches (then_on ls (stood keys asked heard s) (option_map halts z) next) (then_on ls s z clock_next)
  sim-then next clock_next sim ls keys asked heard s None facts front hears =
      let m = sim keys asked heard s facts front hears in
      record { keys = m.keys; asked = m.asked; heard = m.heard; is = ap (behind ls) m.is; facts = m.facts }
  sim-then next clock_next sim ls keys asked heard s (Some z) facts front hears =
      record { keys = keys; asked = asked; heard = heard; is = refl; facts = facts }

  pub sim-before : (part next : Part) (clock_part clock_next : ClockPart) → Keeps next → Sim part clock_part → Sim next clock_next
      → Sim (λ c. before (part c) next) (λ s. before (clock_part s) clock_next)
  sim-before part next clock_part clock_next keeps one two keys asked heard s facts front hears =
      let c = stood keys asked heard s in
      let m = one keys asked heard s facts (front-of (asked-before (part c) next keeps) front) (heard-before part next c hears) in
      let q = clock_part s in
      subst (λ r. Matches (before r next) (before q clock_next)) (sym m.is)
      (sim-then next clock_next two q.lines m.keys m.asked m.heard q.state q.stop m.facts
      (subst (λ r. IsFrontOf (before r next).state.asked all) m.is front)
      (subst (λ r. is_heard (before r next).stop ≡ true) m.is hears))

  pub sim-rests : Sim rests rests
  sim-rests keys asked heard s facts front hears = record { keys = keys; asked = asked; heard = heard; is = refl; facts = facts }

  -- ---- commands and the replies to them

  -- the replies that were heard to some commands are those of the book
  heard-told : (asked : List Command) (heard : List Reply) (commands : List Command) → told_all ≡ replies (first_book setup) asked ++ heard
      → IsFrontOf (asked ++ commands) all → length commands ≤ dones heard
      → replies_to (length commands) heard ≡ replies (after (first_book setup) asked) commands
  heard-told asked heard commands is front low =
      let b = first_book setup in
      let n = length commands in
      let rest = replies (after b (asked ++ commands)) front.rest in
      let whole : replies b asked ++ (heard ++ ok.rest) ≡ replies b asked ++ (replies (after b asked) commands ++ rest) =
      sym (append_assoc (replies b asked) heard ok.rest) ∙ ap (λ l. l ++ ok.rest) (sym is) ∙ sym ok.is
      ∙ ap (replies b) front.is ∙ replies-append b (asked ++ commands) front.rest
      ∙ ap (λ l. l ++ rest) (replies-append b asked commands) ∙ append_assoc (replies b asked) (replies (after b asked) commands) rest in
      sym (replies_to-more n heard ok.rest low)
      ∙ ap (replies_to n) (append_cancel_left (replies b asked) (heard ++ ok.rest) (replies (after b asked) commands ++ rest) whole)
      ∙ replies_to-book (after b asked) commands rest

  sim-answered_if : (b : Bool) (t : ℕ) (commands : List Command) (keys : List FeedKey) (asked : List Command) (heard : List Reply) (s : State)
      → nat_le (length commands) (dones heard) ≡ b → Facts keys asked heard s
      → IsFrontOf (answered_if b t commands (stood keys asked heard s)).state.asked all → is_heard (answered_if b t commands (stood keys asked heard s)).stop ≡ true
      → Matches (answered_if b t commands (stood keys asked heard s)) (clock.served t commands s)
  sim-answered_if false t commands keys asked heard s is facts front hears = absurd (let wrong : false ≡ true = hears in cc)
  sim-answered_if true t commands keys asked heard s is facts front hears =
      let n = length commands in
      let b = first_book setup in
      let later = replies_behind n heard in
      let to : replies_to n heard ≡ replies s.book commands =
      heard-told asked heard commands facts.heard_is front (le-of n (dones heard) is) ∙ ap (λ book. replies book commands) (sym facts.book) in
      record {
        keys = keys;
        asked = asked ++ commands;
        heard = later;
        is =
            ap (λ rs. with_replies t commands rs later (stood keys asked heard s)) to
            ∙ ap
            (λ seen. record {
              lines = filter_map (told t) (replies s.book commands);
              state = record {
                securities = s.securities;
                keys = keys;
                seen = seen;
                requests = s.requests;
                equities = s.equities ++ filter_map equity_told (replies s.book commands);
                asked = asked ++ commands;
                heard = later;
              };
              stop = None;
            })
            (commands-told s.book commands facts.numbered);
        facts = record {
          feeds = facts.feeds;
          numbered = commands_ids s.book commands facts.numbered;
          book = ap (λ book. after book commands) facts.book ∙ sym (after-append b asked commands);
          heard_is =
              facts.heard_is ∙ ap (λ rs. replies b asked ++ rs) (replies-split n heard ∙ ap (λ rs. rs ++ later) (to ∙ ap (λ book. replies book commands) facts.book))
              ∙ sym (append_assoc (replies b asked) (replies (after b asked) commands) later)
              ∙ ap (λ rs. rs ++ later) (sym (replies-append b asked commands));
        };
      }

  pub sim-answered : (t : ℕ) (commands : List Command) → Sim (answered t commands) (clock.served t commands)
  unfolding answered
  sim-answered t commands keys asked heard s facts front hears =
      sim-answered_if (nat_le (length commands) (dones heard)) t commands keys asked heard s refl facts front hears

  -- ---- the other parts

  pub sim-selection : (universe : Option UniversePlan) (t : ℕ) (rows : List CoarseRow) → Sim (selection universe t rows) (clock.selection universe t rows)
  sim-selection None t rows keys asked heard s facts front hears = sim-rests keys asked heard s facts front hears
  sim-selection (Some universe) t [] keys asked heard s facts front hears = sim-rests keys asked heard s facts front hears
  sim-selection (Some universe) t (row ∷ rows) keys asked heard s facts front hears =
      let symbols = selected (row ∷ rows) universe.rule in
      let wanted = additions symbols (actives_of s.securities) in
      let news = take (room (actives_of s.securities)) wanted in
      let joined = map (joined_key universe t) news in
      record {
        keys = keys ++ joined;
        asked = asked;
        heard = heard;
        is =
            ap
            (λ n. record {
              lines = map (added t) news;
              state = record {
                securities = map (marked_as symbols) s.securities ++ numbered (joining universe t) n news;
                keys = keys ++ joined;
                seen = seen_of s.book;
                requests = s.requests;
                equities = s.equities;
                asked = asked;
                heard = heard;
              };
              stop = option_map halts (stop_past (room (actives_of s.securities)) too_many_securities wanted);
            })
            facts.feeds;
        facts = record {
          feeds = omega (arith, length-append keys joined, length-map news (joined_key universe t), facts.feeds);
          numbered = facts.numbered;
          book = facts.book;
          heard_is = facts.heard_is;
        };
      }

  -- what is counted behind the commands that were handled
  abbrev clock_counted : ℕ → Option Halt → ClockPart
  clock_counted n stop s = record { lines = []; state = record s { requests = s.requests + n }; stop = stop }

  sim-counted : (n : ℕ) (stop : Option Halt) → Sim (counted n (option_map halts stop)) (clock_counted n stop)
  sim-counted n stop keys asked heard s facts front hears = record {
    keys = keys;
    asked = asked;
    heard = heard;
    is = refl;
    facts = record { feeds = facts.feeds; numbered = facts.numbered; book = facts.book; heard_is = facts.heard_is };
  }

  -- trading over given histories
  abbrev clock_trading : ℕ → List History → ClockPart
  clock_trading t h s = clock.traded t (requests setup.plan.rules (seen_of s.book) t h) s

  sim-trading : (t : ℕ) (h : List History) → Sim (trading setup t h) (clock_trading t h)
  sim-trading t h keys asked heard s facts front hears =
      let wanted = requests setup.plan.rules (seen_of s.book) t h in
      let handled = take (most_requests - s.requests) wanted in
      let stop = stop_past (most_requests - s.requests) too_many_requests wanted in
      let m = sim-before (answered t handled) (counted (length handled) (option_map halts stop)) (clock.served t handled) (clock_counted (length handled) stop)
      (counted-keep (length handled) (option_map halts stop)) (sim-answered t handled) (sim-counted (length handled) stop) keys asked heard s facts front hears in
      subst
      (λ ls. Matches (trading setup t h (stood keys asked heard s))
      (record { lines = ls; state = (before (clock.served t handled s) (clock_counted (length handled) stop)).state; stop = stop }))
      (append-nil (filter_map (told t) (replies s.book handled))) m

  sim-closing : (hours : Entries) (t : ℕ) → Sim (closing hours t) (clock.closing hours t)
  sim-closing hours t = by (is_closing hours t)
    where
      by : (b : Bool) → Sim (λ c. if b then answered t (AskAccount (moment t) ∷ []) c else rests c) (λ s. if b then clock.served t (AskAccount (moment t) ∷ []) s else rests s)
      by true = sim-answered t (AskAccount (moment t) ∷ [])
      by false = sim-rests

  sim-removals : (t : ℕ) → Sim (removals t) (clock.removals t)
  sim-removals t keys asked heard s facts front hears = record {
    keys = keys;
    asked = asked;
    heard = heard;
    is = refl;
    facts = record { feeds = facts.feeds; numbered = facts.numbered; book = facts.book; heard_is = facts.heard_is };
  }

  sim-refusal : (known : Known) → Sim (refusal setup known) (clock.refusal setup known)
  sim-refusal known keys asked heard s facts front hears = record { keys = keys; asked = asked; heard = heard; is = refl; facts = facts }

  -- ---- a moment and moments

  refusal-on : (known : Known) → Keeps (in_turn (refusal setup known ∷ []))
  refusal-on known = before-keeps (refusal setup known) rests (refusal-keeps setup known) rests-keep

  removals-on : (t : ℕ) (known : Known) → Keeps (in_turn (removals t ∷ refusal setup known ∷ []))
  removals-on t known = before-keeps (removals t) (in_turn (refusal setup known ∷ [])) (removals-keep t) (refusal-on known)

  closing-on : (t : ℕ) (known : Known) → Keeps (in_turn (closing setup.hours t ∷ removals t ∷ refusal setup known ∷ []))
  closing-on t known =
      before-keeps (closing setup.hours t) (in_turn (removals t ∷ refusal setup known ∷ [])) (closing-keeps setup.hours t) (removals-on t known)

  trading-on : (t : ℕ) (known : Known) (h : List History) → Keeps (in_turn (trading setup t h ∷ closing setup.hours t ∷ removals t ∷ refusal setup known ∷ []))
  trading-on t known h =
      before-keeps (trading setup t h) (in_turn (closing setup.hours t ∷ removals t ∷ refusal setup known ∷ [])) (trading-keeps setup t h) (closing-on t known)

  sim-parts : (t : ℕ) (known : Known) (h : List History)
      → Sim (in_turn (parts_of setup t known h))
      (clock.in_turn ((λ s. clock.served t (marks t h ++ Match (moment t) ∷ []) s) ∷ clock_trading t h ∷ clock.closing setup.hours t ∷ clock.removals t ∷ clock.refusal setup known ∷ []))
  sim-parts t known h =
      sim-before (prices t h) (in_turn (trading setup t h ∷ closing setup.hours t ∷ removals t ∷ refusal setup known ∷ []))
      (λ s. clock.served t (marks t h ++ Match (moment t) ∷ []) s)
      (clock.in_turn (clock_trading t h ∷ clock.closing setup.hours t ∷ clock.removals t ∷ clock.refusal setup known ∷ []))
      (trading-on t known h) (sim-answered t (marks t h ++ Match (moment t) ∷ []))
      (sim-before (trading setup t h) (in_turn (closing setup.hours t ∷ removals t ∷ refusal setup known ∷ []))
      (clock_trading t h) (clock.in_turn (clock.closing setup.hours t ∷ clock.removals t ∷ clock.refusal setup known ∷ []))
      (closing-on t known) (sim-trading t h)
      (sim-before (closing setup.hours t) (in_turn (removals t ∷ refusal setup known ∷ []))
      (clock.closing setup.hours t) (clock.in_turn (clock.removals t ∷ clock.refusal setup known ∷ []))
      (removals-on t known) (sim-closing setup.hours t)
      (sim-before (removals t) (in_turn (refusal setup known ∷ [])) (clock.removals t) (clock.in_turn (clock.refusal setup known ∷ []))
      (refusal-on known) (sim-removals t)
      (sim-before (refusal setup known) rests (clock.refusal setup known) rests rests-keep (sim-refusal known) sim-rests))))

  pub sim-moment : (t : ℕ) (known : Known) → Sim (moment_of setup t known (view_known known)) (clock.moment_of setup t known)
  unfolding moment_of clock.moment_of
  sim-moment t known =
      sim-before (selection setup.plan.universe t known.coarse) (λ c. in_turn (parts_of setup t known (histories_in (view_known known) c)) c)
      (clock.selection setup.plan.universe t known.coarse)
      (clock.in_turn (clock.prices t known ∷ clock.trading setup t known ∷ clock.closing setup.hours t ∷ clock.removals t ∷ clock.refusal setup known ∷ []))
      (chosen-keeps (λ h. in_turn (parts_of setup t known h)) (histories_in (view_known known)) (λ c more. refl) (parts-keep setup t known))
      (sim-selection setup.plan.universe t known.coarse)
      (λ keys asked heard s facts front hears. sim-parts t known (histories known s) keys asked heard s facts front hears)

module _ (p : Pipeline) (all : List Command) (told_all : List Reply) (ok : IsFrontOf told_all (replies (first_book p.setup) all)) where
  sim-run : (n from : ℕ) → Sim p.setup all told_all ok (run (step_known p) n from) (run (step_of p.setup (world p)) n from)
  unfolding run
  sim-run zero from = sim-rests p.setup all told_all ok
  sim-run (suc n) from =
      sim-before p.setup all told_all ok (step_known p from) (run (step_known p) n (from + 1)) (step_of p.setup (world p) from) (run (step_of p.setup (world p)) n (from + 1))
      (run-keeps (step_known p) (known-keeps p) n (from + 1)) (sim-moment p.setup all told_all ok from (world p from)) (sim-run n (from + 1))

  opening-stands : Facts p.setup all told_all ok (first_keys p.setup) [] told_all (opening_state p.setup)
  opening-stands = record {
    feeds =
        omega (
          arith,
          length-append (coarse_keys p.setup.plan) (map (λ security. security.key) (opening_state p.setup).securities),
          length-map (opening_state p.setup).securities (λ security. security.key),
          length-numbered (listed (first_moment p.setup.plan.window)) (length (coarse_keys p.setup.plan)) p.setup.plan.securities,
        );
    numbered = tt;
    book = sym (after-none (first_book p.setup));
    heard_is = ap (λ rs. rs ++ told_all) (sym (replies-none (first_book p.setup)));
  }

  -- the lines of the first moments
  pub same-lines : (n : ℕ) → IsFrontOf (core_known p told_all n).state.asked all → is_heard (core_known p told_all n).stop ≡ true
      → (core_known p told_all n).lines ≡ (moments p.setup (world p) n).lines
  same-lines n front hears =
      let m = sim-run n (first p) (first_keys p.setup) [] told_all (opening_state p.setup) opening-stands front hears in
      ap (λ r. r.lines) m.is
