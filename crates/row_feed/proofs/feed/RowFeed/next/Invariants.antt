-- What is left stays left while rows are passed over.
use Rattle.std.proofs.Common.{◌≡◌, ◌≤◌, List}
use Rattle.lean_items.specs.declared.item.Item.{Item}
use Rattle.row_feed.specs.Feed.{hand_of, at_of, room_of, Leaves, Keeps}
use Rattle.row_feed.proofs.ReadingLemmas.{HasPassed}
use Rattle.row_feed.proofs.feed.RowFeed.next.Given as goal

abbrev pub invariant-steps : goal.invariant-steps
invariant-steps g l = record {
  leaves : (list : List Item) → Leaves g.H.Hand.files g.H.Hand.rest g.H.Hand.is_open l.fn.self list → Leaves g.H.Hand.files g.H.Hand.rest g.H.Hand.is_open l.self list;
  at : at_of l.self ≡ at_of l.fn.self;
  files : g.H.Hand.files (hand_of l.self) ≡ g.H.Hand.files (hand_of l.fn.self);
  grows : g.H.Hand.faults (hand_of l.fn.self) ≤ g.H.Hand.faults (hand_of l.self);
  kept : Keeps l.fn.self l.self;
  passed : HasPassed g.H.Hand.files g.H.Hand.rest g.H.Hand.is_open l.fn.self l.self;
  room : room_of l.self ≤ room_of l.fn.self;
}

abbrev pub decreases-steps : goal.decreases-steps
decreases-steps g l = room_of l.self
