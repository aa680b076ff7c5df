-- The lists of the feeds over a folder's files.
use Rattle.std.specs.Prelude.{List, Option, option_map}
use Rattle.lean_fixed.specs.declared.time.Window.{Window}
use Rattle.lean_io.specs.Told.{Files}
use Rattle.lean_items.specs.declared.feed_key.FeedKey.{FeedKey}
use Rattle.lean_items.specs.declared.item.Item.{Item}
use Rattle.exchange_hours.specs.Entries.{Entries}
use Rattle.clock_feeds.specs.Feeds.{feed}

-- the list of each key, where the files are told
unfoldable pub list_of : Files → Entries → Window → FeedKey → List Item
list_of files hours window key = feed files hours window key

abbrev pub lists_of : Option Files → Entries → Window → Option (FeedKey → List Item)
lists_of files hours window = option_map (λ f. list_of f hours window) files
