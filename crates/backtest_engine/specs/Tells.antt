-- Lists of feeds that tell the world of a backtest.
use Rattle.std.specs.Prelude.{◌≡◌, ℕ, ◌+◌, ◌≤◌, false, pos, Bool, List, [], ◌++◌, filter_map}
use Rattle.std.specs.List.{AllByRecursion as Each, filter}
use Rattle.lean_fixed.specs.declared.resolution.Resolution.{Resolution}
use Rattle.lean_items.specs.declared.bar.Bar.{Bar}
use Rattle.lean_items.specs.declared.coarse_row.CoarseRow.{CoarseRow}
use Rattle.lean_items.specs.declared.feed_key.FeedKey.{FeedKey}
use Rattle.lean_items.specs.declared.feed_key.FeedKind.{FeedKind}
use Rattle.lean_items.specs.declared.feed_key.FeedKind.TheVariants.{Coarse, Equity}
use Rattle.lean_items.specs.declared.item.Item.{Item}
use Rattle.frontier_sync.specs.Slices.{ends_at}
use Rattle.clock_feeds.specs.Bars.{ends_at as bar_ends_at}
use Rattle.rule_strategy.specs.Validity.{IsPeriod}
use Rattle.clock_run.specs.Known.{World}
use Rattle.clock_run.specs.States.{Setup, equity_key, coarse_key}
use Rattle.backtest_core.specs.Standing.{Followed}
use Rattle.backtest_core.specs.Inside.{bar_in, row_in}
use Rattle.backtest_core.specs.Slices.{FitsOnce, IsSoundRow}
use Rattle.backtest_engine.specs.Lists.{due}
use Rattle.backtest_engine.specs.Stands.{AreLists}
use Rattle.backtest_engine.specs.Turns.{IsEquity}

-- what ends at a moment in a list: its bars, and its coarse rows
abbrev pub bars_ending : ℕ → List Item → List Bar
bars_ending t items = filter_map bar_in (filter (ends_at (pos t)) items)

abbrev pub rows_ending : ℕ → List Item → List CoarseRow
rows_ending t items = filter_map row_in (filter (ends_at (pos t)) items)

-- a security whose period is one of its resolution
abbrev pub HasPeriod : FeedKind → Followed → Type 0
HasPeriod Coarse f = ⊥
HasPeriod (Equity symbol resolution) f = IsPeriod resolution f.security.period

-- The bars of a security grow by the one that ends at a moment, which fits behind those before it; no bar is known of a security
-- by its start; the coarse rows are those that end at a moment; and a feed is blocked once its malformed line is due.
pub record Tells (setup : Setup) (world : World) (lists : FeedKey → List Item) : Type 0 where
  pub lists_are : AreLists lists
  pub bars : (key : FeedKey) (t : ℕ) → IsEquity key.kind
      → (world (t + 1)).bars key ≡ (world t).bars key ++ bars_ending (t + 1) (lists key)
  pub fresh : (start : ℕ) (symbol : List ℕ) (resolution : Resolution) (fill : Bool) (t : ℕ) → t ≤ start
      → (world t).bars (equity_key start symbol resolution fill) ≡ []
  pub quiet : (key : FeedKey) (t : ℕ) → Each (λ bar. bar_ends_at (t + 1) bar ≡ false) ((world t).bars key)
  pub once : (f : Followed) (t : ℕ) → HasPeriod f.security.key.kind f → f.bars ≡ (world t).bars f.security.key
      → FitsOnce (t + 1) f (bars_ending (t + 1) (lists f.security.key))
  pub rows : (t : ℕ) → (world t).coarse ≡ rows_ending t (lists (coarse_key setup.plan.window))
  pub sound : (key : FeedKey) (t : ℕ) → Each IsSoundRow (filter (ends_at (pos t)) (lists key))
  pub blocked : (key : FeedKey) (t : ℕ) → due (pos t) (lists key) ≡ (world t).blocked key
