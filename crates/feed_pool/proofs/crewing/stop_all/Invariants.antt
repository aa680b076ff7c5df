use Rattle.std.specs.Prelude.{vec_len}
use Rattle.feed_pool.proofs.crewing.stop_all.Given as goal

abbrev pub decreases-loop-worker : goal.decreases-loop-worker
decreases-loop-worker g l = vec_len l.workers
