-- The rule holds of a new queue, and when its two ends are parted.
use Rattle.std.proofs.Common.{rules}
use Rattle.feed_queue.proofs.Moves.{begins, forks}
use Rattle.feed_queue.proofs.lanes.lane.Goals as goal

pub ruled-requires-clause-rule : goal.ruled-requires-clause-rule
ruled-requires-clause-rule g c = begins

pub another-reading-requires-clause-rule : goal.another-reading-requires-clause-rule
another-reading-requires-clause-rule g c = forks _ _ (search rules)
