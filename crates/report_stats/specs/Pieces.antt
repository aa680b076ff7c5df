-- The pieces of a summary.
use Rattle.std.specs.Prelude.{ℕ, ℤ, pos, List, ◌++◌, codes, unwrap_or}
use Rattle.lean_orders.specs.declared.event.Fill.{Fill}
use Rattle.portfolio.specs.Sums as sums
use Rattle.clock_run.specs.Summary.{amount_line, hold_line}

-- the sums of an account, and a drawdown
abbrev pub account_lines : ℤ → List Fill → List sums.Mark → ℤ → List ℕ
account_lines start fills marks drawdown =
    amount_line (codes "fees") (sums.fees fills)
    ++ amount_line (codes "realised") (sums.realised fills)
    ++ amount_line (codes "cash") (sums.cash start fills)
    ++ amount_line (codes "equity") (sums.equity start fills marks)
    ++ amount_line (codes "drawdown") drawdown

-- the line of what is held of a symbol
abbrev pub line_of : List Fill → List sums.Mark → List ℕ → List ℕ
line_of fills marks symbol =
    hold_line symbol (sums.position symbol fills) (unwrap_or (sums.last_mark symbol marks) (pos 0))
