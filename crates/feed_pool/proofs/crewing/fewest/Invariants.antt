use Rattle.std.proofs.Common.{◌<◌}
use Rattle.std.specs.Prelude.{vec_len, IfSome}
use Rattle.feed_pool.proofs.crewing.fewest.Given as goal

abbrev pub invariant-loop-place : goal.invariant-loop-place
invariant-loop-place g l = IfSome l.found (λ place. place < vec_len l.fn.workers)
