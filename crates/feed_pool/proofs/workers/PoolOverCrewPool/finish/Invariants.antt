use Rattle.std.proofs.Common.{◌≡◌, ◌≤◌}
use Rattle.std.specs.Prelude.{vec_len}
use Rattle.std.specs.Arc.{arc_value}
use Rattle.lean_items.specs.Taken.{Start, Feeds}
use Rattle.feed_pool.specs.Lists.{lists_of}
use Rattle.feed_pool.specs.Crews.{Manned, show_all}
use Rattle.feed_pool.proofs.workers.PoolOverCrewPool.finish.Given as goal

abbrev pub invariant-feeds : goal.invariant-feeds
invariant-feeds g l = record {
  stands : (start : Start) (feeds : Feeds)
      → Manned {feed = g.G.Feed} (lists_of (g.F.Folder.files l.fn.self.folder.now) (arc_value l.fn.self.slots.hours) l.fn.self.slots.window)
      start (record { faults = g.F.Folder.faults l.fn.self.folder.now; hands = g.F.Folder.hands l.fn.self.folder.now }) (show_all l.fn.self.slots.seats.items) feeds
      → Manned {feed = g.G.Feed} (lists_of (g.F.Folder.files l.fn.self.folder.now) (arc_value l.fn.self.slots.hours) l.fn.self.slots.window)
      start (record { faults = g.F.Folder.faults l.self.folder.now; hands = g.F.Folder.hands l.self.folder.now }) (show_all l.self.slots.seats.items) feeds;
  files : g.F.Folder.files l.self.folder.now ≡ g.F.Folder.files l.fn.self.folder.now;
  hours : arc_value l.self.slots.hours ≡ arc_value l.fn.self.slots.hours;
  window : l.self.slots.window ≡ l.fn.self.slots.window;
  grows : g.F.Folder.faults l.fn.self.folder.now ≤ g.F.Folder.faults l.self.folder.now;
  place : l.self.folder.ghost_name ≡ l.fn.self.folder.ghost_name;
}

abbrev pub decreases-feeds : goal.decreases-feeds
decreases-feeds g l = vec_len l.self.slots.seats
