-- What arrives of the feeds in their order, and what the securities of a core make of it.
use Rattle.std.proofs.Common.{◌≡◌, ℕ, zero, suc, ◌<◌, ◌≤◌, List, [], ◌∷◌, Bool, true, false, refl, ap, sym, subst, ◌∙◌, arith, length, take, drop, get_or}
use Rattle.std.specs.Prelude.{Option, None, map, set, cond, ◌==◌}
use Rattle.std.specs.List.{AllZip, AllByRecursion as Each, cons_option}
use Rattle.std.proofs.lemmas.Bool.Decides.{nat_tests}
use Rattle.lean_items.specs.declared.arrival.Arrival.{Arrival}
use Rattle.lean_items.specs.declared.bar.Bar.{Bar}
use Rattle.bar_windows.specs.declared.spec.WindowSpec.{WindowSpec}
use Rattle.clock_run.specs.Idle.{IsQuiet}
use Rattle.backtest_core.specs.declared.watched.Watched.{Watched}
use Rattle.backtest_core.specs.Standing.{Followed, history, feed_of}
use Rattle.backtest_core.specs.Inside.{bar_for, bar_in, bars_in, with_bars}
use Rattle.backtest_core.specs.Slices.{FitsOnce, AreInOrder, FeedsRise}
use Rattle.backtest_core.specs.Asking.{HasWindows}
use Rattle.backtest_core.specs.Watching.{first_bar, Watches, WatchesAt}
use Rattle.backtest_core.proofs.HalfwayLemmas.{IsAt, each-at, each-front, Halfway, halfway-none, halfway-meets, halfway-next, halfway-all, zip-right}

-- what does not belong to a feed gives it no bar
pub other-feed : (feed : ℕ) (a : Arrival) → (a.feed.0 ≡ feed → ⊥) → bar_for feed a ≡ None
other-feed feed a differs = by (a.feed.0 == feed) refl
  where
    by : (b : Bool) → (a.feed.0 == feed) ≡ b → bar_for feed a ≡ None
    by true is = absurd (differs (grind (arith, nat_tests)))
    by false is = ap (λ b. cond b (bar_in a.item) None) is

pub passes-one : (feed : ℕ) (a : Arrival) (later : List Arrival) → bar_for feed a ≡ None → bars_in (a ∷ later) feed ≡ bars_in later feed
passes-one feed a later none = ap (λ o. cons_option o (bars_in later feed)) none

-- behind a feed of a greater number there is nothing of a feed
pub nothing-behind : (feed : ℕ) (slice : List Arrival) → Each (λ a. feed < a.feed.0) slice → bars_in slice feed ≡ []
nothing-behind feed [] greater = refl
nothing-behind feed (a ∷ slice) greater =
    passes-one feed a slice (other-feed feed a (λ same. omega (arith, same, greater.0))) ∙ nothing-behind feed slice greater.1

all-greater : (feed n : ℕ) (slice : List Arrival) → feed < n → Each (λ b. n ≤ b.feed.0) slice → Each (λ b. feed < b.feed.0) slice
all-greater feed n [] less all = tt
all-greater feed n (a ∷ slice) less all = (omega (arith, less, all.0), all-greater feed n slice less all.1)

pub stops-here : (feed : ℕ) (a : Arrival) (later : List Arrival) → feed < a.feed.0 → AreInOrder (a ∷ later) → bars_in (a ∷ later) feed ≡ []
stops-here feed a later less order = nothing-behind feed (a ∷ later) (less, all-greater feed a.feed.0 later less order.0)

pub order-drop : (n : ℕ) (slice : List Arrival) → AreInOrder slice → AreInOrder (drop n slice)
order-drop zero slice order = order
order-drop (suc n) [] order = tt
order-drop (suc n) (a ∷ slice) order = order-drop n slice order.1

-- the numbers of the feeds before a place
pub rise-front : (n : ℕ) (fs : List Followed) (f : Followed) → IsAt n fs f → FeedsRise fs → Each (λ g. feed_of g ≤ feed_of f) (take n fs)
rise-front n [] f at rise = elim at [ ]
rise-front zero (g ∷ fs) f at rise = tt
rise-front (suc n) (g ∷ fs) f at rise = (each-at (λ h. feed_of g ≤ feed_of h) n fs f at rise.0, rise-front n fs f at rise.1)

-- the securities before a moment, and what arrives
pub record AreWell (t : ℕ) (slice : List Arrival) (ws : List Watched) (fs : List Followed) : Type 0 where
  pub watch : AllZip Watches ws fs
  pub quiet : Each (λ f. IsQuiet t (history f)) fs
  pub once : Each (λ f. FitsOnce t f (bars_in slice (feed_of f))) fs
  pub order : AreInOrder slice
  pub rise : FeedsRise fs

-- those before a place have heard their bars, and what was passed is not of those from it on
pub record HasHeard (t : ℕ) (slice : List Arrival) (from n : ℕ) (ws : List Watched) (fs : List Followed) : Type 0 where
  pub half : Halfway Watches (λ w f. WatchesAt t w (with_bars slice f)) n ws fs
  pub passed : (later : ℕ) → Each (λ f. feed_of f ≤ later) (take n fs) → bars_in slice later ≡ bars_in (drop from slice) later

pub heard-none : (t : ℕ) (slice : List Arrival) (ws : List Watched) (fs : List Followed) → AreWell t slice ws fs → HasHeard t slice 0 0 ws fs
heard-none t slice ws fs well = record {
  half = halfway-none Watches (λ w f. WatchesAt t w (with_bars slice f)) ws fs well.watch;
  passed = λ later all. refl;
}

pub heard-next : (t : ℕ) (slice : List Arrival) (old : List Watched) (from to n : ℕ) (ws : List Watched) (fs : List Followed) (w d : Watched) (bar : Option Bar)
    → n < length ws
    → AreWell t slice old fs
    → (AreInOrder slice → bar ≡ first_bar (bars_in (drop from slice) (get_or ws n d).feed.0))
    → ((later : ℕ) → (get_or ws n d).feed.0 ≤ later → bars_in (drop from slice) later ≡ bars_in (drop to slice) later)
    → ((f : Followed) → Watches (get_or ws n d) f → IsQuiet t (history f) → FitsOnce t f (bars_in slice (feed_of f)) → bar ≡ first_bar (bars_in slice (feed_of f))
    → WatchesAt t w (with_bars slice f))
    → HasHeard t slice from n ws fs → HasHeard t slice to (suc n) (set ws n w) fs
heard-next t slice old from to n ws fs w d bar within well found passes arrives heard =
    let meets = halfway-meets Watches (λ w f. WatchesAt t w (with_bars slice f)) n ws fs d within heard.half in
    let f = meets.other in
    let same : (get_or ws n d).feed.0 ≡ feed_of f = ap (λ a. a.feed.0) meets.related.active in
    let front : Each (λ g. feed_of g ≤ feed_of f) (take n fs) = rise-front n fs f meets.at well.rise in
    let here : bar ≡ first_bar (bars_in slice (feed_of f)) =
    found well.order ∙ (ap (λ k. first_bar (bars_in (drop from slice) k)) same ∙ ap first_bar (sym (heard.passed (feed_of f) front))) in
    record {
      half = halfway-next Watches (λ w f. WatchesAt t w (with_bars slice f)) n ws fs w f within meets.at
          (arrives f meets.related (each-at (λ f. IsQuiet t (history f)) n fs f meets.at well.quiet)
          (each-at (λ f. FitsOnce t f (bars_in slice (feed_of f))) n fs f meets.at well.once) here)
          heard.half;
      passed = λ later all.
          let split = each-front (λ g. feed_of g ≤ later) n fs f meets.at all in
          heard.passed later split.0 ∙ passes later (subst (λ k. k ≤ later) (sym same) split.1);
    }

pub heard-all : (t : ℕ) (slice : List Arrival) (from n : ℕ) (ws : List Watched) (fs : List Followed) → length ws ≤ n
    → HasHeard t slice from n ws fs → AllZip (WatchesAt t) ws (map (with_bars slice) fs)
heard-all t slice from n ws fs all heard =
    zip-right (WatchesAt t) (with_bars slice) ws fs (halfway-all Watches (λ w f. WatchesAt t w (with_bars slice f)) n ws fs all heard.half)

-- a loop in which each security hears its bar
pub record AreHearing (slice : List Arrival) (old now : List Watched) (from n : ℕ) : Type 0 where
  pub len : length now ≡ length old
  pub within : from ≤ length slice
  pub heard : (t : ℕ) (fs : List Followed) → AreWell t slice old fs → HasHeard t slice from n now fs
  pub windows : (specs : List WindowSpec) → Each (HasWindows specs) old → Each (HasWindows specs) now
