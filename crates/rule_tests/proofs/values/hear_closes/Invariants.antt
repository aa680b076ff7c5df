use Rattle.std.proofs.Common.{◌≡◌}
use Rattle.rule_tests.proofs.values.hear_closes.Given as goal

abbrev pub invariant-loop-hundreds : goal.invariant-loop-hundreds
invariant-loop-hundreds l = l.windows.specs ≡ l.fn.windows.specs
