use Rattle.std.proofs.Common.{take}
use Rattle.backtest_core.specs.Tables.{Adds}
use Rattle.backtest_core.proofs.table.add_all.Given as goal

abbrev pub invariant-loop-window : goal.invariant-loop-window
invariant-loop-window l = Adds l.fn.specs.items l.specs.items l.out.items (take l.window-index l.fn.windows)
