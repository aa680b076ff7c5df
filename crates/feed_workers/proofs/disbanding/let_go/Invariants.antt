use Rattle.std.proofs.Common.{◌≡◌}
use Rattle.std.specs.Prelude.{vec_len}
use Rattle.feed_workers.proofs.disbanding.let_go.Given as goal

abbrev pub invariant-loop-posted : goal.invariant-loop-posted
invariant-loop-posted g l = l.count ≡ vec_len l.fn.turns

abbrev pub decreases-loop-posted : goal.decreases-loop-posted
decreases-loop-posted g l = vec_len l.turns
