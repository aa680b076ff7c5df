use Rattle.std.proofs.Common.{◌≡◌, ◌++◌, drop, map, unsigned_abs}
use Rattle.clock_run.specs.Lines.{added}
use Rattle.backtest_core.specs.Text.{lines_bytes}
use Rattle.backtest_core.proofs.arriving.tell_added.Given as goal

abbrev pub invariant-loop-symbol : goal.invariant-loop-symbol
invariant-loop-symbol l =
    l.fn.text.items ++ lines_bytes (map (added (unsigned_abs l.at.0)) l.symbols)
    ≡ l.text.items ++ lines_bytes (map (added (unsigned_abs l.at.0)) (drop l.symbol-index l.symbols))
