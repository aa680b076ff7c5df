-- The world of a folder's files: what is known of their feeds at a moment.
use Rattle.lean_fixed.specs.declared.time.Window.{Window}
use Rattle.lean_io.specs.Told.{Files}
use Rattle.exchange_hours.specs.Entries.{Entries}
use Rattle.clock_feeds.specs.Feeds.{coarse_of}
use Rattle.clock_feeds.specs.Known.{feed_bars, feed_blocked}
use Rattle.clock_feeds.specs.Slices.{coarse_at}
use Rattle.clock_run.specs.Known.{World}
use Rattle.clock_run.specs.States.{coarse_key}

unfoldable pub world_of : Files → Entries → Window → World
world_of files hours window t = record {
  bars = λ key. feed_bars files hours window key t;
  blocked = λ key. feed_blocked files hours window key t;
  coarse = coarse_at (coarse_of files hours window (coarse_key window)) t;
}
