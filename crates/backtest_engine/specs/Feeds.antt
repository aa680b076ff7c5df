-- The lists of the feeds of a folder, by their keys.
use Rattle.std.specs.Prelude.{List}
use Rattle.lean_fixed.specs.declared.time.Window.{Window}
use Rattle.lean_io.specs.Told.{Files}
use Rattle.lean_items.specs.declared.feed_key.FeedKey.{FeedKey}
use Rattle.lean_items.specs.declared.item.Item.{Item}
use Rattle.exchange_hours.specs.Entries.{Entries}
use Rattle.clock_feeds.specs.Feeds.{feed}

abbrev pub list_of : Files → Entries → Window → FeedKey → List Item
list_of files hours window key = feed files hours window key
