-- Feeds that are added to a pool and removed from it, with their first heads.
use Rattle.std.specs.Prelude.{ℕ, ℤ, ◌<◌, Bool, List, ◌++◌, fold}
use Rattle.std.specs.List.{All}
use Rattle.lean_items.specs.declared.arrival.Arrival.{Arrival}
use Rattle.lean_items.specs.declared.feed_key.FeedKey.{FeedKey}
use Rattle.lean_items.specs.declared.feed_no.FeedNo.{FeedNo}
use Rattle.lean_items.specs.declared.item.Item.{Item}
use Rattle.lean_items.specs.Taken.{Start, Feeds, AllFollow}
use Rattle.frontier_sync.specs.Heads.{without}
use Rattle.backtest_engine.specs.Meaning.{Subscription}
use Rattle.backtest_engine.specs.Turns.{numbered}
use Rattle.backtest_engine.specs.Stands.{AreLists, AreAt, MayStart, Stock}

-- the numbers of heads are below one
abbrev pub AreNumbered : ℕ → List Arrival → Type 0
AreNumbered count heads = All (λ a. a.feed.0 < count) heads

abbrev pub without_heads : List Arrival → List FeedNo → List Arrival
without_heads heads removed = fold (λ hs feed. without feed.0 hs) heads removed

-- Feeds of some keys were added from a number on, and the head of each was taken: in whatever lists the old heads stood, the new
-- ones stand.
pub record Opened (stands : Start → Feeds → Type 0) (before : Start) (first added : ℕ) (feeds now : Feeds) (heads new : List Arrival) (all ks : List FeedKey) : Type 0 where
  pub stock : Stock stands before added new all now
  pub at : (lists : FeedKey → List Item) (coarse : Bool) (t : ℤ) (active : List Subscription) → AreLists lists → AllFollow lists now
      → All (MayStart coarse t) (numbered first ks) → AreAt coarse t feeds heads active → AreAt coarse t now new (active ++ numbered first ks)
