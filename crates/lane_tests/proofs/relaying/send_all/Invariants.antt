use Rattle.std.proofs.Common.{◌≡◌, ◌≤◌, length}
use Rattle.feed_queue.specs.Lanes.{sent_of, lane_of}
use Rattle.lane_tests.proofs.relaying.send_all.Given as goal

abbrev pub invariant-tries : goal.invariant-tries
invariant-tries g l = record {
  next : (goal.iterator-tries g).can_next l.iterator' × (goal.iterator-tries g).is_finite l.iterator';
  lane : lane_of l.writer ≡ lane_of l.fn.writer;
  sent : length (sent_of l.writer) ≡ l.next;
  few : l.next ≤ l.count;
}
