use Rattle.std.proofs.Common.{◌≡◌, ◌++◌, drop}
use Rattle.backtest_core.specs.Inside.{rows_in}
use Rattle.backtest_core.proofs.selecting.add_rows.Given as goal

abbrev pub invariant-loop-arrival : goal.invariant-loop-arrival
invariant-loop-arrival l = l.fn.rows.items ++ rows_in l.slice ≡ l.rows.items ++ rows_in (drop l.arrival-index l.slice)
