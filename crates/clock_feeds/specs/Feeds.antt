-- What a feed gives, in order: the bars of a security by walking every minute up to the end of the window, or the coarse rows as
-- they stand; and then the malformed line at which it ends, or its end.
use Rattle.std.specs.Prelude.{ℕ, List, [], ◌∷◌, ◌++◌, map, option_map, Option, Some, None}
use Rattle.std.specs.Option.{option_to_list}
use Rattle.lean_fixed.specs.declared.resolution.Resolution.{Resolution}
use Rattle.lean_fixed.specs.declared.time.Window.{Window}
use Rattle.lean_fixed.specs.Moments.{last_moment}
use Rattle.lean_io.specs.Told.{Files}
use Rattle.lean_items.specs.declared.bad.Bad.{Bad}
use Rattle.lean_items.specs.declared.bar.Bar.{Bar}
use Rattle.lean_items.specs.declared.coarse_row.CoarseRow.{CoarseRow}
use Rattle.lean_items.specs.declared.feed_key.FeedKey.{FeedKey}
use Rattle.lean_items.specs.declared.feed_key.FeedKind.{FeedKind}
use Rattle.lean_items.specs.declared.feed_key.FeedKind.TheVariants.{Coarse, Equity}
use Rattle.lean_items.specs.declared.item.Item.{Item}
use Rattle.lean_items.specs.declared.item.Item.TheVariants.{Bar as BarItem, Coarse as CoarseItem, Bad as BadItem, End}
use Rattle.exchange_hours.specs.Entries.{Entries}
use Rattle.exchange_hours.specs.Sessions.{moment}
use Rattle.feed_paths.specs.Files.{files as numbers}
use Rattle.clock_steps.specs.Walks.{walk}
use Rattle.clock_feeds.specs.Raw.{equity_raw, coarse_raw}
use Rattle.clock_feeds.specs.Kept.{Kept, kept_bars, kept_coarse}
use Rattle.clock_feeds.specs.Bars.{Filling, bar_at}

-- the last item of a feed
abbrev pub last_item : Option Bad → Item
last_item None = End
last_item (Some bad) = BadItem bad

unfoldable pub items_at : Filling → Kept Bar → ℕ → List Item
items_at f kept t = option_to_list (option_map BarItem (bar_at f kept t))

-- the items of a security from a moment on
abbrev pub items_from : Filling → Kept Bar → ℕ → List Item
items_from f kept from = walk (items_at f kept) from f.last ++ last_item kept.stop ∷ []

abbrev pub coarse_item : ℕ × CoarseRow → Item
coarse_item row = CoarseItem (moment row.0) row.1

abbrev pub coarse_items : Kept (ℕ × CoarseRow) → List Item
coarse_items kept = map coarse_item kept.rows ++ last_item kept.stop ∷ []

-- the kept rows as items, and then the last item
abbrev pub row_items : Kept Bar → List Item
row_items kept = map BarItem kept.rows ++ last_item kept.stop ∷ []

-- the kept rows of a key over the files of a folder
unfoldable pub bars_of : Files → Entries → Window → FeedKey → List ℕ → Resolution → Kept Bar
bars_of files hours window key symbol resolution =
    kept_bars hours key.start.0 (last_moment window) (equity_raw files hours symbol resolution (numbers key window hours))

unfoldable pub coarse_of : Files → Entries → Window → FeedKey → Kept (ℕ × CoarseRow)
coarse_of files hours window key =
    kept_coarse key.start.0 (last_moment window) (coarse_raw files (numbers key window hours))

abbrev pub filling_of : Entries → Window → FeedKey → Resolution → Filling
filling_of hours window key resolution =
    record { hours = hours; resolution = resolution; fills = key.fill; last = last_moment window }

-- the kept rows of a key as items, and then the last item
abbrev pub rows_of : Files → Entries → Window → FeedKey → FeedKind → List Item
rows_of files hours window key Coarse = coarse_items (coarse_of files hours window key)
rows_of files hours window key (Equity symbol resolution) = row_items (bars_of files hours window key symbol resolution)

abbrev pub rows : Files → Entries → Window → FeedKey → List Item
rows files hours window key = rows_of files hours window key key.kind

-- the list of items of a feed, with its filled bars
abbrev pub feed_of : Files → Entries → Window → FeedKey → FeedKind → List Item
feed_of files hours window key Coarse = coarse_items (coarse_of files hours window key)
feed_of files hours window key (Equity symbol resolution) =
    items_from (filling_of hours window key resolution) (bars_of files hours window key symbol resolution) 0

abbrev pub feed : Files → Entries → Window → FeedKey → List Item
feed files hours window key = feed_of files hours window key key.kind
