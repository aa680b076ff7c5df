use Rattle.std.proofs.Common.{◌≡◌, ◌++◌, drop}
use Rattle.backtest_core.specs.Leaving.{new_among}
use Rattle.backtest_core.proofs.selecting.add_new.Given as goal

abbrev pub invariant-loop-symbol : goal.invariant-loop-symbol
invariant-loop-symbol l = l.fn.out.items ++ new_among l.watched l.symbols ≡ l.out.items ++ new_among l.watched (drop l.symbol-index l.symbols)
