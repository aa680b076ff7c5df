use Rattle.std.proofs.Common.{◌+◌, ◌≤◌, length}
use Rattle.feed_queue.specs.Lanes.{left_of}
use Rattle.feed_workers.specs.Errands.{takes}
use Rattle.feed_workers.proofs.disbanding.let_rest_go.Given as goal

abbrev pub invariant-errands : goal.invariant-errands
invariant-errands g l = record {
  went : takes (left_of l.fn.rest) ≤ l.count + takes (left_of l.rest);
  few : l.count + length (left_of l.rest) ≤ length (left_of l.fn.rest);
}

abbrev pub decreases-errands : goal.decreases-errands
decreases-errands g l = length (left_of l.rest)
