use Rattle.std.proofs.Common.{◌≡◌, true}
use Rattle.base_tests.proofs.io.pieces.Given as goal

abbrev pub invariant-reads : goal.invariant-reads
invariant-reads g l = g.H.Hand.is_open l.hand ≡ true
