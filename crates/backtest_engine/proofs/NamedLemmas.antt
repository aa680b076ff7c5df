-- The first of the feeds that wait gets its number.
use Rattle.std.proofs.Common.{◌≡◌, ℕ, suc, ◌+◌, List, [], ◌∷◌, ◌++◌, length, map, Some, None, refl, sym, ap, subst, ◌∙◌, arith}
use Rattle.std.specs.Prelude.{Option, cond, find}
use Rattle.std.specs.List.{AllByRecursion as Each}
use Rattle.std.specs.Cmp.Lexicographic.{nat_list_eq_equiv}
use Rattle.std.proofs.lemmas.List.{length-map}
use Rattle.std.proofs.lemmas.Option.{none-some}
use Rattle.lean_items.specs.declared.feed_key.FeedKey.{FeedKey}
use Rattle.clock_run.specs.Lines.{Line}
use Rattle.clock_run.specs.States.{Setup, Subscription, symbol_of}
use Rattle.backtest_core.specs.declared.standing.Core.{Core}
use Rattle.backtest_core.specs.Standing.{Standing, with_feed, waits_as, without_first, named_as, named, named_all}
use Rattle.backtest_core.specs.Inside.{inside}
use Rattle.backtest_core.specs.Core.{StandsFor}
use Rattle.backtest_engine.specs.declared.algorithm.Algorithm.{Algorithm}
use Rattle.backtest_engine.specs.Algorithms.{Own, meaning_of}
use Rattle.backtest_engine.specs.Meaning.{Meaning, State}
use Rattle.backtest_engine.specs.Named.{symbol_in}
use Rattle.backtest_engine.specs.Playing.{IsKeyed, IsCoarse, Between}

-- the first that waits is the one that is named by its symbol
pub named-first : (n : ℕ) (w : Subscription) (ws : List Subscription) (v : Standing) → v.waiting ≡ w ∷ ws
    → named (symbol_of w) n v ≡ record v { waiting = ws; followed = v.followed ++ record { security = with_feed n w; bars = [] } ∷ [] }
named-first n w ws v first =
    ap (λ us. named_as n (without_first (symbol_of w) us) (find (waits_as (symbol_of w)) us) v) first
    ∙ (λ j. named_as n (cond (nat_list_eq_equiv.refl (symbol_of w) j) ws (w ∷ without_first (symbol_of w) ws))
    (cond (nat_list_eq_equiv.refl (symbol_of w) j) (Some w) (find (waits_as (symbol_of w)) ws)) v)

all-behind : (n : ℕ) (w : Subscription) (ws : List Subscription) (v : Standing) → v.waiting ≡ w ∷ ws
    → named_all n v.waiting v
    ≡ named_all (n + 1) ws (record v { waiting = ws; followed = v.followed ++ record { security = with_feed n w; bars = [] } ∷ [] })
unfolding named_all
all-behind n w ws v first = ap (λ us. named_all n us v) first ∙ ap (named_all (n + 1) ws) (named-first n w ws v first)

-- ---- which feed comes first

abbrev first-of : FeedKey → List FeedKey → FeedKey
first-of d [] = d
first-of d (key ∷ keys) = key

abbrev others-of : List FeedKey → List FeedKey
others-of [] = []
others-of (key ∷ keys) = keys

abbrev symbol-or : Option (List ℕ) → List ℕ
symbol-or None = []
symbol-or (Some symbol) = symbol

-- the coarse feed waits before all others
record Coarse (keys : List FeedKey) (ws : List Subscription) : Type 0 where
  front : List FeedKey
  coarse : Each IsCoarse front
  waits : keys ≡ front ++ map (λ security. security.key) ws

coarse-first : (front : List FeedKey) (ws : List Subscription) (key : FeedKey) (keys : List FeedKey) → symbol_in key.kind ≡ None
    → Each IsCoarse front → Each IsKeyed ws → key ∷ keys ≡ front ++ map (λ security. security.key) ws → Coarse keys ws
coarse-first [] [] key keys none coarse keyed waits = absurd (omega (arith, ap length waits))
coarse-first [] (w ∷ ws) key keys none coarse ((resolution, kind), keyed) waits =
    absurd (none-some (symbol_of w) (sym none ∙ ap (λ l. symbol_in (first-of key l).kind) waits ∙ ap symbol_in kind))
coarse-first (f ∷ front) ws key keys none (is, coarse) keyed waits = record { front = front; coarse = coarse; waits = ap others-of waits }

-- behind it the securities wait, each under a key of its symbol
record Listed (symbol : List ℕ) (keys : List FeedKey) (ws : List Subscription) : Type 0 where
  w : Subscription
  others : List Subscription
  first : ws ≡ w ∷ others
  of_it : symbol ≡ symbol_of w
  waits : keys ≡ map (λ security. security.key) others

listed-first : (symbol : List ℕ) (front : List FeedKey) (ws : List Subscription) (key : FeedKey) (keys : List FeedKey) → symbol_in key.kind ≡ Some symbol
    → Each IsCoarse front → Each IsKeyed ws → key ∷ keys ≡ front ++ map (λ security. security.key) ws → Listed symbol keys ws
listed-first symbol [] [] key keys has coarse keyed waits = absurd (omega (arith, ap length waits))
listed-first symbol [] (w ∷ ws) key keys has coarse ((resolution, kind), keyed) waits = record {
  w = w;
  others = ws;
  first = refl;
  of_it = ap symbol-or (sym has ∙ ap (λ l. symbol_in (first-of key l).kind) waits ∙ ap symbol_in kind);
  waits = ap others-of waits;
}
listed-first symbol (f ∷ front) ws key keys has (is, coarse) keyed waits =
    absurd (none-some symbol (sym (ap symbol_in is) ∙ sym (ap (λ l. symbol_in (first-of key l).kind) waits) ∙ has))

-- ---- an algorithm behind it

pub named-coarse : (a : Algorithm) (m : Meaning Own) (s : State Own) (key : FeedKey) (keys : List FeedKey) → symbol_in key.kind ≡ None
    → Between a m s (key ∷ keys) → Between a m s keys
named-coarse a m s key keys none b =
    let c = coarse-first b.front b.standing.waiting key keys none b.coarse b.keyed b.waits in
    record {
      setup = b.setup;
      means = b.means;
      standing = b.standing;
      lines = b.lines;
      core = b.core;
      its = b.its;
      hours = b.hours;
      stats = b.stats;
      front = c.front;
      coarse = c.coarse;
      waits = c.waits;
      keyed = b.keyed;
      from = b.from;
      count = b.count;
      is = b.is;
    }

adds : (m : Meaning Own) (setup : Setup) (own : Own) → m ≡ meaning_of setup → m.added own ≡ own.feeds
unfolding meaning_of
adds m setup own means = ap (λ (n : Meaning Own). n.added own) means

-- how many feeds there are before it
before-it : (feed from all : ℕ) (ws others : List Subscription) (w : Subscription) (keys : List FeedKey) → ws ≡ w ∷ others
    → keys ≡ map (λ security. security.key) others → from + length ws ≡ all → feed + (length keys + 1) ≡ all
    → (feed ≡ from) × (from + 1 + length others ≡ all)
before-it feed from all ws others w keys first waits count given =
    let same : length keys ≡ length others = ap length waits ∙ length-map others (λ security. security.key) in
    let more : length ws ≡ length others + 1 = ap length first ∙ next (length others) in
    (omega (arith, same, more, count, given), omega (arith, more, count))
  where
    next : (n : ℕ) → suc n ≡ n + 1
    next n = omega arith

pub named-listed : (a : Algorithm) (core : Core) (m : Meaning Own) (s : State Own) (key : FeedKey) (keys : List FeedKey) (symbol : List ℕ) (feed : ℕ)
    → symbol_in key.kind ≡ Some symbol
    → ((v : Standing) (lines : List Line) → StandsFor a.core v lines → StandsFor core (named symbol feed v) lines)
    → Between a m s (key ∷ keys) → feed + (length keys + 1) ≡ m.added s.own → Between (record a { core = core }) m s keys
named-listed a core m s key keys symbol feed has stands b given =
    let v = b.standing in
    let l = listed-first symbol b.front v.waiting key keys has b.coarse b.keyed b.waits in
    let (number, count) = before-it feed b.from s.own.feeds v.waiting l.others l.w keys l.first l.waits b.count (given ∙ adds m b.setup s.own b.means) in
    let behind : Standing = record v { waiting = l.others; followed = v.followed ++ record { security = with_feed b.from l.w; bars = [] } ∷ [] } in
    let named_is : named symbol feed v ≡ behind = (λ j. named (l.of_it j) (number j) v) ∙ named-first b.from l.w l.others v l.first in
    let keyed : Each IsKeyed (l.w ∷ l.others) = subst (λ ws. Each IsKeyed ws) l.first b.keyed in
    record {
      setup = b.setup;
      means = b.means;
      standing = behind;
      lines = b.lines;
      core = subst (λ u. StandsFor core u b.lines) named_is (stands v b.lines b.core);
      its = b.its;
      hours = b.hours;
      stats = b.stats;
      front = [];
      coarse = tt;
      waits = l.waits;
      keyed = keyed.1;
      from = b.from + 1;
      count = count;
      is = b.is ∙ ap (inside 0 []) (all-behind b.from l.w l.others v l.first);
    }
