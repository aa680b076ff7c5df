-- Over lists that tell a world, what ends at a moment is what is known at it beyond what was known before.
use Rattle.std.proofs.Common.{◌≡◌, ℕ, ◌+◌, List, [], ◌∷◌, ◌++◌, false, refl, ap, sym, subst, ◌∙◌, arith}
use Rattle.std.specs.Prelude.{pos, Option, Some, None, map, filter, length}
use Rattle.std.specs.List.{AllByRecursion as Each}
use Rattle.lean_fixed.specs.declared.time.Window.{Window}
use Rattle.lean_items.specs.declared.arrival.Arrival.{Arrival}
use Rattle.lean_items.specs.declared.coarse_row.CoarseRow.{CoarseRow}
use Rattle.lean_items.specs.declared.feed_key.FeedKey.{FeedKey}
use Rattle.lean_items.specs.declared.feed_key.FeedKind.{FeedKind}
use Rattle.lean_items.specs.declared.feed_key.FeedKind.TheVariants.{Coarse, Equity}
use Rattle.lean_items.specs.declared.item.Item.{Item}
use Rattle.frontier_sync.specs.Slices.{ends_at as item_ends_at}
use Rattle.frontier_sync.specs.Stands.{AreBars}
use Rattle.clock_feeds.specs.Bars.{ends_at as bar_ends_at}
use Rattle.rule_strategy.specs.declared.universe.UniversePlan.{UniversePlan}
use Rattle.rule_strategy.specs.Validity.{IsPeriod}
use Rattle.clock_run.specs.Known.{Known, World}
use Rattle.clock_run.specs.States as clock
use Rattle.clock_run.specs.States.{Setup, coarse_keys_for, coarse_key}
use Rattle.clock_run.specs.Idle.{IsQuiet}
use Rattle.clock_run.specs.Orderly.{number_of, NumbersRise, IsOrderly}
use Rattle.clock_run.proofs.EachLemmas.{each-map}
use Rattle.backtest_core.specs.Standing.{Followed, followed_of, feed_of, history, standing_of}
use Rattle.backtest_core.specs.Inside.{bars_in, rows_in}
use Rattle.backtest_core.specs.Made.{TiesRows, AreNew, Ties}
use Rattle.backtest_core.specs.Slices.{FitsOnce, IsSoundRow, IsSlice}
use Rattle.backtest_engine.specs.Algorithms.{active_of, own_of, subscribed}
use Rattle.backtest_engine.specs.Lists.{slice_at}
use Rattle.backtest_engine.specs.Tells.{bars_ending, rows_ending, HasPeriod, Tells}
use Rattle.backtest_engine.specs.Turns.{IsEquity, numbered}
use Rattle.backtest_engine.proofs.RunsSlices.{slice, slice-append, Slice, slice-none, slice-one, rows-one, feeds-rise}

-- a feed of a security, with a period of its resolution
abbrev pub IsKeyed : FeedKind → Option ℕ → Type 0
IsKeyed Coarse period = ⊥
IsKeyed (Equity symbol resolution) period = IsPeriod resolution period

abbrev pub AreKeyed : List clock.Subscription → Type 0
AreKeyed xs = Each (λ x. IsKeyed x.key.kind x.period) xs

keyed-equity : (kind : FeedKind) (period : Option ℕ) → IsKeyed kind period → IsEquity kind
keyed-equity Coarse period keyed = keyed
keyed-equity (Equity symbol resolution) period keyed = tt

keyed-period : (kind : FeedKind) (f : Followed) → IsKeyed kind f.security.period → HasPeriod kind f
keyed-period Coarse f keyed = keyed
keyed-period (Equity symbol resolution) f keyed = keyed

-- the slice of the active feeds, in two parts
abbrev pub all_of : (FeedKey → List Item) → ℕ → Known → Window → Option UniversePlan → List clock.Subscription → List Arrival
all_of lists t known window universe xs = slice_at lists (pos t) (numbered 0 (coarse_keys_for window universe)) ++ slice lists t known xs

module _ (lists : FeedKey → List Item) (t : ℕ) (known : Known) (window : Window) where
  slice-of : (universe : Option UniversePlan) (until : ℕ) (xs : List clock.Subscription)
      → ((key : FeedKey) → Each IsSoundRow (filter (item_ends_at (pos t)) (lists key)))
      → NumbersRise (length (coarse_keys_for window universe)) until xs
      → Slice lists t known xs (all_of lists t known window universe xs)
  slice-of None until xs sound rise = slice-none lists t known until xs sound rise
  slice-of (Some universe) until xs sound rise = slice-one lists t known (coarse_key window) until xs sound rise

  rows-tie : (universe : Option UniversePlan) (xs : List clock.Subscription) (rows : List CoarseRow) → Each (λ x. AreBars (lists x.key)) xs
      → rows ≡ rows_ending t (lists (coarse_key window)) → TiesRows universe (rows_in (all_of lists t known window universe xs)) rows
  rows-tie None xs rows bars is = tt
  rows-tie (Some universe) xs rows bars is = rows-one lists t known (coarse_key window) xs bars ∙ sym is

module _ (setup : Setup) (world : World) (lists : FeedKey → List Item) (tells : Tells setup world lists) where
  are-new : (universe : Option UniversePlan) (t : ℕ) → AreNew universe t (world t)
  are-new None t = tt
  are-new (Some universe) t = λ symbol. tells.fresh t symbol universe.resolution universe.fill t (omega arith)

  are-bars : (xs : List clock.Subscription) → AreKeyed xs → Each (λ x. AreBars (lists x.key)) xs
  are-bars [] keyed = tt
  are-bars (x ∷ xs) keyed = (tells.lists_are.bars x.key (keyed-equity x.key.kind x.period keyed.0), are-bars xs keyed.1)

  module _ (t u : ℕ) (next : t ≡ u + 1) where
    bars-go-on : (key : FeedKey) → IsEquity key.kind → (world t).bars key ≡ (world u).bars key ++ bars_ending t (lists key)
    bars-go-on key equity =
        subst (λ t. (world t).bars key ≡ (world u).bars key ++ bars_ending t (lists key)) (sym next) (tells.bars key u equity)

    bars-tie : (all : List Arrival) (xs : List clock.Subscription) → AreKeyed xs
        → Each (λ x. bars_in all (number_of x) ≡ bars_ending t (lists x.key)) xs
        → Each (λ x. (world t).bars x.key ≡ (world u).bars x.key ++ bars_in all (number_of x)) xs
    bars-tie all [] keyed bars = tt
    bars-tie all (x ∷ xs) keyed bars = (
      bars-go-on x.key (keyed-equity x.key.kind x.period keyed.0)
          ∙ ap (λ bars. (world u).bars x.key ++ bars) (sym bars.0),
      bars-tie all xs keyed.1 bars.1,
    )

    bars-fit : (all : List Arrival) (xs : List clock.Subscription) → AreKeyed xs
        → Each (λ x. bars_in all (number_of x) ≡ bars_ending t (lists x.key)) xs
        → Each (λ f. FitsOnce t f (bars_in all (feed_of f))) (map (followed_of (world u)) xs)
    bars-fit all [] keyed bars = tt
    bars-fit all (x ∷ xs) keyed bars =
        let f = followed_of (world u) x in
        let once : FitsOnce t f (bars_ending t (lists x.key)) =
        subst (λ t. FitsOnce t f (bars_ending t (lists x.key))) (sym next)
        (tells.once f u (keyed-period x.key.kind f keyed.0) refl) in
        (subst (FitsOnce t f) (sym bars.0) once, bars-fit all xs keyed.1 bars.1)

    module _ (s : clock.State) (orderly : IsOrderly setup.plan s) (keyed : AreKeyed s.securities) where
      abbrev pub all : List Arrival
      all = slice_at lists (pos t) (active_of (own_of setup s (world u)))

      parts : all ≡ all_of lists t (world u) setup.plan.window setup.plan.universe s.securities
      parts = slice-append lists (pos t) (numbered 0 (coarse_keys_for setup.plan.window setup.plan.universe))
          (map subscribed (map (followed_of (world u)) s.securities))

      sliced : Slice lists t (world u) s.securities all
      sliced = subst (Slice lists t (world u) s.securities) (sym parts)
          (slice-of lists t (world u) setup.plan.window setup.plan.universe s.feeds s.securities (λ key. tells.sound key t) orderly.numbers)

      pub ties : Ties setup t (world u) (world t) all s
      ties = record {
        bars = bars-tie all s.securities keyed sliced.bars;
        rows = subst (λ all. TiesRows setup.plan.universe (rows_in all) (world t).coarse) (sym parts)
            (rows-tie lists t (world u) setup.plan.window setup.plan.universe s.securities (world t).coarse (are-bars s.securities keyed) (tells.rows t));
        fresh = are-new setup.plan.universe t;
        numbered = orderly.ids;
      }

      pub takes : IsSlice t (standing_of setup s (world u)) all
      takes = record {
        quiet = each-map (λ f. IsQuiet t (history f)) (followed_of (world u)) s.securities
            (λ x. subst (λ t. Each (λ bar. bar_ends_at t bar ≡ false) ((world u).bars x.key)) (sym next) (tells.quiet x.key u));
        bars = bars-fit all s.securities keyed sliced.bars;
        rows = sliced.rows;
        order = sliced.order;
        rising = feeds-rise lists t (world u) (length (coarse_keys_for setup.plan.window setup.plan.universe)) s.feeds s.securities orderly.numbers;
      }
