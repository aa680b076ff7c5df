-- What is known of the feed of a key by a moment: the bars that have ended, and the malformed line at which it is blocked.
use Rattle.std.specs.Prelude.{ℕ, nat_le, if◌then◌else◌, List, [], Option, None}
use Rattle.std.specs.List.{list_all}
use Rattle.std.specs.Option.{option_to_list}
use Rattle.lean_fixed.specs.declared.time.Window.{Window}
use Rattle.lean_io.specs.Told.{Files}
use Rattle.lean_items.specs.declared.bad.Bad.{Bad}
use Rattle.lean_items.specs.declared.bar.Bar.{Bar}
use Rattle.lean_items.specs.declared.coarse_row.CoarseRow.{CoarseRow}
use Rattle.lean_items.specs.declared.feed_key.FeedKey.{FeedKey}
use Rattle.lean_items.specs.declared.feed_key.FeedKind.{FeedKind}
use Rattle.lean_items.specs.declared.feed_key.FeedKind.TheVariants.{Coarse, Equity}
use Rattle.exchange_hours.specs.Entries.{Entries}
use Rattle.clock_steps.specs.Walks.{walk}
use Rattle.clock_feeds.specs.Kept.{Kept}
use Rattle.clock_feeds.specs.Bars.{bar_at, blocked}
use Rattle.clock_feeds.specs.Feeds.{bars_of, coarse_of}
use Rattle.clock_feeds.specs.Slices.{Source, source}

-- the bars of a security up to a moment: the bar of each minute up to it that has one
unfoldable pub bars_by : Source → ℕ → List Bar
bars_by s t = walk (λ u. option_to_list (bar_at s.filling s.kept u)) 0 t

-- the malformed line at which the coarse feed ends at a moment, where all its rows are known by then
abbrev pub coarse_blocked : Kept (ℕ × CoarseRow) → ℕ → Option Bad
coarse_blocked kept t = if list_all (λ row. nat_le row.0 t) kept.rows then kept.stop else None

-- the bars of a key up to a moment; the coarse universe has none
abbrev pub feed_bars_of : Files → Entries → Window → FeedKey → FeedKind → ℕ → List Bar
feed_bars_of files hours window key Coarse t = []
feed_bars_of files hours window key (Equity symbol resolution) t = bars_by (source files hours window key symbol resolution) t

abbrev pub feed_bars : Files → Entries → Window → FeedKey → ℕ → List Bar
feed_bars files hours window key t = feed_bars_of files hours window key key.kind t

-- the malformed line at which the feed of a key is blocked at a moment
abbrev pub feed_blocked_of : Files → Entries → Window → FeedKey → FeedKind → ℕ → Option Bad
feed_blocked_of files hours window key Coarse t = coarse_blocked (coarse_of files hours window key) t
feed_blocked_of files hours window key (Equity symbol resolution) t = blocked (bars_of files hours window key symbol resolution) t

abbrev pub feed_blocked : Files → Entries → Window → FeedKey → ℕ → Option Bad
feed_blocked files hours window key t = feed_blocked_of files hours window key key.kind t
