use Rattle.std.proofs.Common.{◌≡◌}
use Rattle.feed_queue.specs.Lanes.{lane_of_reader}
use Rattle.lane_tests.proofs.relaying.take_all.Given as goal

abbrev pub invariant-tries : goal.invariant-tries
invariant-tries g l = record {
  next : (goal.iterator-tries g).can_next l.iterator' × (goal.iterator-tries g).is_finite l.iterator';
  lane : lane_of_reader l.reader ≡ lane_of_reader l.fn.reader;
}
