use Rattle.std.proofs.Common.{◌≡◌}
use Rattle.feed_queue.specs.Lanes.{lane_of_reader}
use Rattle.feed_workers.proofs.worker.Worker.run.Given as goal

abbrev pub invariant-loop : goal.invariant-loop
invariant-loop g l = lane_of_reader l.self.errands ≡ lane_of_reader l.fn.self.errands
