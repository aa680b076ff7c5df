use Rattle.std.proofs.Common.{◌≡◌}
use Rattle.feed_queue.specs.Lanes.{taken_of}
use Rattle.feed_workers.proofs.seat.Seat.take.Given as goal

abbrev pub invariant-loop : goal.invariant-loop
invariant-loop g l = record {
  origin : l.self.origin.value ≡ l.fn.self.origin.value;
  taken : taken_of l.self.reader ≡ taken_of l.fn.self.reader;
  count : l.self.count ≡ l.fn.self.count;
}
