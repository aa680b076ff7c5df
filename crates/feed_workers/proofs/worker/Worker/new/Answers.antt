use Rattle.std.proofs.Common.{vec_len}
use Rattle.feed_queue.specs.Lanes.{taken_of}
use Rattle.feed_workers.proofs.ErrandLemmas.{none-yet}
use Rattle.feed_workers.proofs.worker.Worker.new.Goals as goal

pub invariant_of-result-clause-none_lost : goal.invariant_of-result-clause-none_lost
invariant_of-result-clause-none_lost g c = none-yet (taken_of c.args.errands) (vec_len c.in_ok-turns.turns) c.requires
