use Rattle.std.proofs.Common.{◌≡◌, List}
use Rattle.lean_orders.specs.declared.desk.Reply.{Reply}
use Rattle.feed_queue.specs.Lanes.{sent_of}
use Rattle.order_desk.specs.Ends.{HasPassed, KeepsLanes}
use Rattle.order_desk.proofs.ends.Ends.next.Given as goal

abbrev pub invariant-tries : goal.invariant-tries
invariant-tries g l = record {
  next : (goal.iterator-tries g).can_next l.iterator' × (goal.iterator-tries g).is_finite l.iterator';
  passed : (rs : List Reply) → HasPassed l.fn.self rs → HasPassed l.self rs;
  sent : sent_of l.self.commands ≡ sent_of l.fn.self.commands;
  lanes : KeepsLanes l.fn.self l.self;
}
