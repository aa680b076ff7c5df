-- What an algorithm is before its first moment: the securities that the plan lists wait, and with their numbers they are those of
-- the definition's first state.
use Rattle.std.proofs.Common.{◌≡◌, ℕ, suc, ◌+◌, ◌<◌, drop, drop-cons, get_or, List, [], ◌∷◌, ◌++◌, length, map, Some, None, true, false, Bool, refl, sym, ap, subst, ◌∙◌, arith, inl, inr, ℤ, pos, unsigned_abs, is_some}
use Rattle.std.specs.Prelude.{Option, ◌≤◌}
use Rattle.std.specs.List.{All, AllByRecursion as Each}
use Rattle.std.specs.Arc.{arc_value}
use Rattle.std.proofs.lemmas.List.{append-nil, append_assoc, length-append, length-map}
use Rattle.std.proofs.lemmas.List.Elements.{All-nil, All-cons}
use Rattle.std.proofs.lemmas.Int.{ints}
use Rattle.std.proofs.lemmas.Simd.{map-map}
use Rattle.lean_fixed.specs.declared.time.Moment.{Moment}
use Rattle.lean_fixed.specs.declared.time.Window.{Window}
use Rattle.lean_fixed.specs.Moments.{first_moment, midnight}
use Rattle.lean_fixed.specs.Ranges.{IsWindowDay, IsMoment, last_printed_moment}
use Rattle.lean_items.specs.declared.feed_key.FeedKey.{FeedKey}
use Rattle.exchange_hours.specs.Entries.{Entries}
use Rattle.exchange_hours.specs.Sessions.{moment}
use Rattle.rule_strategy.specs.declared.plan.Plan.{Plan}
use Rattle.rule_strategy.specs.declared.security.Security.{Security}
use Rattle.rule_strategy.specs.declared.universe.UniversePlan.{UniversePlan}
use Rattle.rule_strategy.specs.Validity.{IsRun, IsPlan}
use Rattle.report_stats.specs.Stands.{StandsFor as StatsStand}
use Rattle.clock_book.specs.Books.{new_book}
use Rattle.clock_run.specs.States.{Setup, Subscription, symbol_of, listed, coarse_key, coarse_keys_for, coarse_keys}
use Rattle.clock_run.specs.States as clock
use Rattle.backtest_core.specs.Standing.{Followed, Standing, begun, named_all, followed_of}
use Rattle.backtest_core.specs.Inside.{inside}
use Rattle.backtest_core.specs.Core.{StandsFor}
use Rattle.backtest_engine.specs.declared.algorithm.Algorithm.{Algorithm}
use Rattle.backtest_engine.specs.Algorithms.{nothing_known, subscribed, meaning_of, opening_state, opening_keys}
use Rattle.backtest_engine.specs.Playing.{IsKeyed, IsCoarse, Between}
use Rattle.backtest_engine.specs.Reported.{MayOpen, IsOpening}
use Rattle.backtest_engine.specs.Turns.{subscription, numbered}
use Rattle.backtest_engine.proofs.NamedLemmas.{named-first}

-- the listed securities, each under its number
module _ (first : ℕ) where
  all-listed : (n : ℕ) (ss : List Security) (v : Standing) → v.waiting ≡ map (listed first 0) ss
      → named_all n (map (listed first 0) ss) v
      ≡ record v { waiting = []; followed = v.followed ++ map (followed_of nothing_known) (clock.numbered (listed first) n ss) }
  unfolding named_all
  all-listed n [] v is = λ j. record v { waiting = is j; followed = sym (append-nil v.followed) j }
  all-listed n (s ∷ ss) v is =
      let w : Subscription = listed first 0 s in
      let one : Followed = record { security = listed first n s; bars = [] } in
      let next : Standing = record v { waiting = map (listed first 0) ss; followed = v.followed ++ one ∷ [] } in
      ap (named_all (n + 1) (map (listed first 0) ss)) (named-first n w (map (listed first 0) ss) v is)
      ∙ all-listed (n + 1) ss next refl
      ∙ (λ j. record v {
        waiting = [];
        followed = append_assoc v.followed (one ∷ []) (map (followed_of nothing_known) (clock.numbered (listed first) (n + 1) ss)) j;
      })

  keyed-listed : (ss : List Security) → Each IsKeyed (map (listed first 0) ss)
  keyed-listed [] = tt
  keyed-listed (s ∷ ss) = ((s.resolution, refl), keyed-listed ss)

are-coarse : (window : Window) (universe : Option UniversePlan) → Each IsCoarse (coarse_keys_for window universe)
are-coarse window None = tt
are-coarse window (Some universe) = (refl, tt)

-- an algorithm whose core is a new one is between two moments, before the first
pub begins : (a : Algorithm) (setup : Setup) (hours : Entries) → hours ≡ setup.hours
    → StandsFor a.core (begun (record { plan = setup.plan; hours = hours })) [] → arc_value a.hours ≡ setup.hours
    → StatsStand a.stats setup.plan.cash.0 [] → Between a (meaning_of setup) (opening_state setup) (opening_keys setup.plan)
begins a setup hours same core own stats =
    let first = first_moment setup.plan.window in
    let ss = setup.plan.securities in
    let front = coarse_keys setup.plan in
    record {
      setup = setup;
      means = refl;
      standing = begun setup;
      lines = [];
      core = subst (λ h. StandsFor a.core (begun (record { plan = setup.plan; hours = h })) []) same core;
      its = refl;
      hours = own;
      stats = stats;
      front = front;
      coarse = are-coarse setup.plan.window setup.plan.universe;
      waits = ap (λ keys. front ++ keys) (sym (map-map (λ (security : Subscription). security.key) (listed first 0) ss));
      keyed = keyed-listed first ss;
      from = length front;
      count = ap (λ n. length front + n) (length-map ss (listed first 0));
      is = ap (inside 0 []) (sym (all-listed first (length front) ss (begun setup) refl));
    }

-- ---- the keys of the feeds

-- the first moment lies past 1970-01-01, and is one that may be printed
first-range : (day : ℤ) → IsWindowDay day → (1 ≤ midnight (unsigned_abs day)) × (midnight (unsigned_abs day) ≤ last_printed_moment)
first-range day (low, high) = (omega (arith, ints, low, high), omega (arith, ints, low, high))

module _ (first : ℕ) where
  starts-listed : first ≤ last_printed_moment → (ss : List Security) → All (λ key. IsMoment key.start.0) (map (λ s. (listed first 0 s).key) ss)
  starts-listed high [] = All-nil (λ (key : FeedKey). IsMoment key.start.0)
  starts-listed high (s ∷ ss) =
      All-cons (λ (key : FeedKey). IsMoment key.start.0) (listed first 0 s).key (map (λ s. (listed first 0 s).key) ss)
      (omega (arith, ints, high), omega (arith, ints, high)) (starts-listed high ss)

  may-listed : (coarse : Bool) (n : ℕ) (ss : List Security) → All (MayOpen coarse first) (numbered n (map (λ s. (listed first 0 s).key) ss))
  may-listed coarse n [] = All-nil (MayOpen coarse first)
  may-listed coarse n (s ∷ ss) =
      All-cons (MayOpen coarse first) (subscription n (listed first 0 s).key) (numbered (n + 1) (map (λ s. (listed first 0 s).key) ss))
      (record { start = record { from = omega (arith, ints); kind = inl tt }; late = λ is. omega (arith, ints) })
      (may-listed coarse (n + 1) ss)

  subscribed-listed : (n : ℕ) (ss : List Security)
      → map subscribed (map (followed_of nothing_known) (clock.numbered (listed first) n ss)) ≡ numbered n (map (λ s. (listed first 0 s).key) ss)
  subscribed-listed n [] = refl
  subscribed-listed n (s ∷ ss) = ap (λ fs. subscription n (listed first 0 s).key ∷ fs) (subscribed-listed (n + 1) ss)

-- the keys are put together: those of the listed securities one by one, and behind the coarse one
pub keys-more : (t i : ℕ) (told old new : List FeedKey) (ss : List Security) (s : Security) → i < length ss → s ≡ get_or ss i s
    → new ≡ old ++ (listed t 0 s).key ∷ []
    → told ++ map (λ s. (listed t 0 s).key) ss ≡ old ++ map (λ s. (listed t 0 s).key) (drop i ss)
    → told ++ map (λ s. (listed t 0 s).key) ss ≡ new ++ map (λ s. (listed t 0 s).key) (drop (i + 1) ss)
keys-more t i told old new ss s within is new_is so_far =
    let here : drop i ss ≡ s ∷ drop (suc i) ss = drop-cons ss i s within ∙ ap (λ x. x ∷ drop (suc i) ss) (sym is) in
    let step : suc i ≡ i + 1 = omega arith in
    so_far
    ∙ (ap (λ l. old ++ map (λ s. (listed t 0 s).key) l) here
    ∙ (sym (append_assoc old ((listed t 0 s).key ∷ []) (map (λ s. (listed t 0 s).key) (drop (suc i) ss)))
    ∙ (ap (λ l. l ++ map (λ s. (listed t 0 s).key) (drop (suc i) ss)) (sym new_is)
    ∙ ap (λ n. new ++ map (λ s. (listed t 0 s).key) (drop n ss)) step)))

pub keys-whole : (plan : Plan) (start : Moment) (ss : List Security) (none coarse keys : List FeedKey) → none ≡ [] → ss ≡ plan.securities
    → coarse ≡ none ++ coarse_keys_for plan.window plan.universe → start.0 ≡ pos (first_moment plan.window)
    → ((t : ℕ) → start ≡ moment t → keys ≡ coarse ++ map (λ s. (listed t 0 s).key) ss) → keys ≡ opening_keys plan
keys-whole plan start ss none coarse keys empty are first at listed_are =
    let front : coarse ≡ coarse_keys plan = first ∙ ap (λ l. l ++ coarse_keys plan) empty in
    listed_are (first_moment plan.window) (λ j. record { 0 = at j })
    ∙ (λ j. front j ++ map (λ s. (listed (first_moment plan.window) 0 s).key) (are j))

few-opening : (window : Window) (universe : Option UniversePlan) (ss : List Security) → length ss ≤ 256
    → length (coarse_keys_for window universe ++ map (λ s. (listed (first_moment window) 0 s).key) ss) ≤ 1000
few-opening window None ss few = omega (arith, few, length-map ss (λ s. (listed (first_moment window) 0 s).key))
few-opening window (Some universe) ss few = omega (arith, few, length-map ss (λ s. (listed (first_moment window) 0 s).key))

pub few-keys : (plan : Plan) → IsPlan plan → length (opening_keys plan) ≤ 1000
few-keys plan is = few-opening plan.window plan.universe plan.securities is.listed

starts-opening : (window : Window) (universe : Option UniversePlan) (ss : List Security) → IsRun window
    → All (λ key. IsMoment key.start.0) (coarse_keys_for window universe ++ map (λ s. (listed (first_moment window) 0 s).key) ss)
starts-opening window None ss run = starts-listed (first_moment window) (first-range window.first.0 run.days.first).1 ss
starts-opening window (Some universe) ss run =
    let (low, high) = first-range window.first.0 run.days.first in
    All-cons (λ (key : FeedKey). IsMoment key.start.0) (coarse_key window) (map (λ s. (listed (first_moment window) 0 s).key) ss)
    (omega (arith, ints, low, high), omega (arith, ints, low, high)) (starts-listed (first_moment window) high ss)

pub start-keys : (plan : Plan) → IsPlan plan → All (λ key. IsMoment key.start.0) (opening_keys plan)
start-keys plan is = starts-opening plan.window plan.universe plan.securities is.window

-- ---- how a run begins

may-opening : (window : Window) (universe : Option UniversePlan) (ss : List Security) → IsRun window
    → All (MayOpen (is_some universe) (first_moment window))
    (numbered 0 (coarse_keys_for window universe ++ map (λ s. (listed (first_moment window) 0 s).key) ss))
may-opening window None ss run = may-listed (first_moment window) false 0 ss
may-opening window (Some universe) ss run =
    let (low, high) = first-range window.first.0 run.days.first in
    All-cons (MayOpen true (first_moment window)) (subscription 0 (coarse_key window))
    (numbered 1 (map (λ s. (listed (first_moment window) 0 s).key) ss))
    (record { start = record { from = omega (arith, ints, low); kind = inr (refl, refl) }; late = λ is. absurd is })
    (may-listed (first_moment window) true 1 ss)

active-opening : (window : Window) (universe : Option UniversePlan) (ss : List Security)
    → numbered 0 (coarse_keys_for window universe) ++ map subscribed
    (map (followed_of nothing_known) (clock.numbered (listed (first_moment window)) (length (coarse_keys_for window universe)) ss))
    ≡ numbered 0 (coarse_keys_for window universe ++ map (λ s. (listed (first_moment window) 0 s).key) ss)
active-opening window None ss = subscribed-listed (first_moment window) 0 ss
active-opening window (Some universe) ss =
    ap (λ fs. subscription 0 (coarse_key window) ∷ fs) (subscribed-listed (first_moment window) 1 ss)

pub opening-is : (setup : Setup) → IsPlan setup.plan
    → IsOpening (meaning_of setup) (is_some setup.plan.universe) (first_moment setup.plan.window) (opening_keys setup.plan) (opening_state setup)
    (new_book setup.plan.cash.0 setup.plan.costs setup.plan.leverage setup.hours)
unfolding meaning_of
opening-is setup is =
    let ss = setup.plan.securities in
    let front = coarse_keys setup.plan in
    let first = first_moment setup.plan.window in
    record {
      book = refl;
      active = active-opening setup.plan.window setup.plan.universe ss;
      added = ap (λ n. length front + n) (sym (length-map ss (λ s. (listed first 0 s).key)))
          ∙ sym (length-append front (map (λ s. (listed first 0 s).key) ss));
      may = may-opening setup.plan.window setup.plan.universe ss is.window;
    }
