-- An algorithm closes a moment.
use Rattle.std.proofs.Common.{◌≡◌, ℕ, ◌+◌, List, [], ◌∷◌, ◌++◌, refl, ap, sym, subst, ◌∙◌}
use Rattle.std.specs.Prelude.{pos, Option, Some, None, length, map, filter_map}
use Rattle.std.specs.List.{All, AllByRecursion as Each}
use Rattle.std.proofs.lemmas.List.{append-nil, append_assoc, length-map, map-append}
use Rattle.std.proofs.lemmas.List.Concat.{flat_map-append}
use Rattle.std.proofs.lemmas.List.Elements.{All-nil, All-cons}
use Rattle.lean_items.specs.declared.feed_key.FeedKey.{FeedKey}
use Rattle.lean_items.specs.declared.feed_no.FeedNo.{FeedNo}
use Rattle.lean_orders.specs.declared.desk.Command.{Command}
use Rattle.lean_orders.specs.declared.desk.Reply.{Reply}
use Rattle.rule_strategy.specs.declared.universe.UniversePlan.{UniversePlan}
use Rattle.clock_run.specs.Lines.{Line, line_bytes, removed as removed_at}
use Rattle.clock_run.specs.Moments.{equity_told}
use Rattle.clock_run.specs.Orderly.{NumbersRise}
use Rattle.clock_run.specs.States.{Setup, Subscription as Security, symbol_of, coarse_keys, joining}
use Rattle.report_stats.specs.Stands.{StandsFor as StatsStand}
use Rattle.backtest_core.specs.declared.standing.Core.{Core}
use Rattle.backtest_core.specs.Core.{StandsFor, StandsIn}
use Rattle.backtest_core.specs.Inside.{Inside, is_leaving, leaving, joining_all, closed, lines_closed}
use Rattle.backtest_core.specs.Standing.{Followed, Standing, named_all, with_feed}
use Rattle.backtest_core.specs.Text.{lines_bytes}
use Rattle.backtest_engine.specs.declared.algorithm.Algorithm.{Algorithm}
use Rattle.backtest_engine.specs.Algorithms.{Own, plan_of, unphased, subscribed, active_of, rest_of, meaning_of}
use Rattle.backtest_engine.specs.Meaning.{Meaning}
use Rattle.backtest_engine.specs.Playing.{IsKeyed, Between, Within, behind_all}
use Rattle.backtest_engine.specs.ReachLemmas.{all_of, heard_of, finished, plays-all, reached-all, behind-whole, lines-on}
use Rattle.backtest_engine.specs.Turns.{Turn, IsEquity, IsFinished, numbered, without_all, turn_after, Closes}
use Rattle.backtest_engine.proofs.LeaveLemmas.{without-leaving, below-all}
use Rattle.backtest_engine.proofs.NamedLemmas.{named-first}

-- ---- those that join

keyed-all : (universe : UniversePlan) (t : ℕ) (news : List (List ℕ)) → Each IsKeyed (map (joining universe t 0) news)
keyed-all universe t [] = tt
keyed-all universe t (symbol ∷ news) = ((universe.resolution, refl), keyed-all universe t news)

keyed-joining : (universe : Option UniversePlan) (t : ℕ) (news : List (List ℕ)) → Each IsKeyed (joining_all universe t news)
keyed-joining None t news = tt
keyed-joining (Some universe) t news = keyed-all universe t news

abbrev key_of : Security → FeedKey
key_of security = security.key

abbrev StartsAt : ℕ → FeedKey → Type 0
StartsAt t key = (key.start.0 ≡ pos t) × IsEquity key.kind

starts-all : (universe : UniversePlan) (t : ℕ) (news : List (List ℕ)) → All (StartsAt t) (map key_of (map (joining universe t 0) news))
starts-all universe t [] = All-nil (StartsAt t)
starts-all universe t (symbol ∷ news) =
    All-cons (StartsAt t) (joining universe t 0 symbol).key (map key_of (map (joining universe t 0) news)) (refl, tt) (starts-all universe t news)

starts-joining : (universe : Option UniversePlan) (t : ℕ) (news : List (List ℕ)) → All (StartsAt t) (map key_of (joining_all universe t news))
starts-joining None t news = All-nil (StartsAt t)
starts-joining (Some universe) t news = starts-all universe t news

-- with their numbers, their feeds stand behind those before them
named-feeds : (n : ℕ) (ws : List Security) (v : Standing) → v.waiting ≡ ws
    → map subscribed (named_all n ws v).followed ≡ map subscribed v.followed ++ numbered n (map key_of ws)
unfolding named_all
named-feeds n [] v is = sym (append-nil (map subscribed v.followed))
named-feeds n (w ∷ ws) v is =
    let fresh : Followed = record { security = with_feed n w; bars = [] } in
    let on : Standing = record v { waiting = ws; followed = v.followed ++ fresh ∷ [] } in
    ap (λ u. map subscribed (named_all (n + 1) ws u).followed) (named-first n w ws v is)
    ∙ (named-feeds (n + 1) ws on refl
    ∙ (ap (λ fs. fs ++ numbered (n + 1) (map key_of ws)) (map-append subscribed v.followed (fresh ∷ []))
    ∙ append_assoc (map subscribed v.followed) (subscribed fresh ∷ []) (numbered (n + 1) (map key_of ws))))

named-setup : (n : ℕ) (ws : List Security) (v : Standing) → v.waiting ≡ ws → (named_all n ws v).setup ≡ v.setup
unfolding named_all
named-setup n [] v is = refl
named-setup n (w ∷ ws) v is =
    ap (λ u. (named_all (n + 1) ws u).setup) (named-first n w ws v is)
    ∙ named-setup (n + 1) ws (record v { waiting = ws; followed = v.followed ++ record { security = with_feed n w; bars = [] } ∷ [] }) refl

-- ---- what the call says

abbrev pub Closed-in : Algorithm → Core → List FeedKey → List FeedNo → Type 0
Closed-in a core added removed = (i : Inside) → StandsIn a.core i
    → StandsFor core (closed i) (lines_closed i)
    × (added ≡ map (λ security. security.key) (closed i).waiting)
    × (removed ≡ map (λ f. f.security.active.feed) (leaving i))

-- the own state behind the phases
abbrev last_of : Turn Own → Inside
last_of turn = unphased (behind_all turn.phase turn.state.own (all_of turn) (heard_of turn))

feeds-closed : (x : Inside) (began : Own) (feeds : ℕ) (added : List FeedKey) (removed : List FeedNo)
    → began.feeds ≡ feeds → numbered 0 (coarse_keys x.standing.setup.plan) ++ map subscribed x.standing.followed ≡ active_of began
    → NumbersRise (length (coarse_keys x.standing.setup.plan)) feeds (map (λ f. f.security) x.standing.followed)
    → added ≡ map key_of (closed x).waiting → removed ≡ map (λ f. f.security.active.feed) (leaving x)
    → active_of (record { inside = rest_of feeds (closed x); feeds = feeds + length (closed x).waiting; equities = began.equities })
    ≡ without_all (active_of began) removed ++ numbered began.feeds added
feeds-closed x began feeds added removed count active rise is gone =
    let v = closed x in
    let coarse = coarse_keys x.standing.setup.plan in
    ap (λ (s : Setup). numbered 0 (coarse_keys s.plan) ++ map subscribed (named_all feeds v.waiting v).followed) (named-setup feeds v.waiting v refl)
    ∙ (ap (λ fs. numbered 0 coarse ++ fs) (named-feeds feeds v.waiting v refl)
    ∙ (sym (append_assoc (numbered 0 coarse) (map subscribed v.followed) (numbered feeds (map key_of v.waiting)))
    ∙ (ap (λ fs. fs ++ numbered feeds (map key_of v.waiting))
    (sym (without-leaving (is_leaving x) (length coarse) feeds (numbered 0 coarse) x.standing.followed (below-all coarse) rise))
    ∙ (λ j. without_all (active j) (sym gone j) ++ numbered (sym count j) (sym is j)))))

abbrev removed_line : Inside → Followed → Line
removed_line x f = removed_at x.at (symbol_of f.security)

pub closes-at : (setup : Setup) (a : Algorithm) (core : Core) (turn : Turn Own) (added : List FeedKey) (removed : List FeedNo)
    → Within a (meaning_of setup) turn (all_of turn) (heard_of turn) → Closed-in a core added removed
    → Closes (meaning_of setup) (Between (record a { core = core }) (meaning_of setup)) core.text.items (turn_after (meaning_of setup) turn) added removed
unfolding meaning_of
closes-at setup a core turn added removed w says =
    let r = reached-all (meaning_of setup) a turn w in
    let b = behind-whole (meaning_of setup) a turn w in
    let p = plays-all (meaning_of setup) a turn w in
    let x = last_of turn in
    let own = turn.state.own in
    let (stands, is, gone) = subst (λ (i : Inside). StandsFor core (closed i) (lines_closed i)
    × (added ≡ map key_of (closed i).waiting) × (removed ≡ map (λ (f : Followed). f.security.active.feed) (leaving i))) r.is (says r.inside r.stands) in
    let its : x.standing.setup ≡ w.setup = b.setup ∙ w.its in
    let active : numbered 0 (coarse_keys x.standing.setup.plan) ++ map subscribed x.standing.followed ≡ active_of turn.began =
    (λ j. numbered 0 (coarse_keys (b.setup j).plan) ++ map subscribed (b.followed j)) ∙ w.active in
    let rise : NumbersRise (length (coarse_keys x.standing.setup.plan)) own.feeds (map (λ f. f.security) x.standing.followed) =
    subst (λ (s : Setup). NumbersRise (length (coarse_keys s.plan)) own.feeds (map (λ f. f.security) x.standing.followed)) (sym b.setup)
    (subst (λ fs. NumbersRise (length (coarse_keys (plan_of own))) own.feeds (map (λ (f : Followed). f.security) fs)) (sym b.followed) w.numbers) in
    let count : length added ≡ length (closed x).waiting = ap length is ∙ length-map (closed x).waiting key_of in
    record {
      stand = record {
        setup = w.setup;
        means = w.means;
        standing = closed x;
        lines = lines_closed x;
        core = stands;
        its = its;
        hours = w.hours;
        stats = subst (λ (s : Setup). StatsStand a.stats s.plan.cash.0 (own.equities ++ filter_map equity_told (heard_of turn))) w.its p.stats;
        front = [];
        coarse = tt;
        waits = is;
        keyed = keyed-joining x.standing.setup.plan.universe x.at x.news;
        from = own.feeds;
        count = refl;
        is = refl;
      };
      text_is = stands.text
          ∙ (flat_map-append line_bytes x.lines (map (removed_line x) (leaving x))
          ∙ ap (λ text. text ++ lines_bytes (map (removed_line x) (leaving x))) (sym (lines-on (meaning_of setup) a turn w)));
      active = feeds-closed x turn.began own.feeds added removed (sym w.feeds) active rise is gone;
      added_is = λ j. w.feeds j + sym count j;
      starts = subst (λ t. All (StartsAt t) added) (b.at ∙ w.at)
          (subst (λ keys. All (StartsAt x.at) keys) (sym is) (starts-joining x.standing.setup.plan.universe x.at x.news));
    }

pub closes : (m : Meaning Own) (a : Algorithm) (core : Core) (turn : Turn Own) (cs : List Command) (rs : List Reply) (added : List FeedKey) (removed : List FeedNo)
    → Within a m turn cs rs → IsFinished m turn cs rs → Closed-in a core added removed
    → Closes m (Between (record a { core = core }) m) core.text.items (turn_after m turn) added removed
closes m a core turn cs rs added removed w f says =
    subst (λ m. Closes m (Between (record a { core = core }) m) core.text.items (turn_after m turn) added removed) (sym w.means)
    (closes-at w.setup a core turn added removed
    (finished w.setup a turn cs rs (subst (λ m. Within a m turn cs rs) w.means w) (subst (λ m. IsFinished m turn cs rs) w.means f)) says)
