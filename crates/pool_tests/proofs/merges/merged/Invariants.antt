use Rattle.frontier_sync.specs.Heads.{AreOpen}
use Rattle.pool_tests.proofs.merges.merged.Given as goal

abbrev pub invariant-moments : goal.invariant-moments
invariant-moments g l = AreOpen (g.P.Pool.is_open l.pool) l.heads
