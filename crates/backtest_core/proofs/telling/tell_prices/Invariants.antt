use Rattle.std.proofs.Common.{◌≡◌, ◌++◌, drop}
use Rattle.backtest_core.specs.Watching.{marks_in}
use Rattle.backtest_core.proofs.telling.tell_prices.Given as goal

abbrev pub invariant-loop-security : goal.invariant-loop-security
invariant-loop-security l = l.fn.out.items ++ marks_in l.at l.watched.items ≡ l.out.items ++ marks_in l.at (drop l.security-index l.watched.items)
