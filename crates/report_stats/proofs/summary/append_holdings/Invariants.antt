use Rattle.std.proofs.Common.{◌≡◌, ◌++◌, ℤ, List, flat_map}
use Rattle.lean_orders.specs.declared.event.Fill.{Fill}
use Rattle.portfolio.specs.Sums.{Mark}
use Rattle.portfolio.specs.Stands.{StandsFor as AccountStands}
use Rattle.report_stats.specs.Pieces.{line_of}
use Rattle.report_stats.proofs.summary.append_holdings.Given as goal

abbrev pub invariant-loop-symbol : goal.invariant-loop-symbol
invariant-loop-symbol l = (start : ℤ) (fills : List Fill) (marks : List Mark) → AccountStands l.fn.account start fills marks
    → l.out.items ++ flat_map (line_of fills marks) l.symbol-iterator ≡ l.fn.out.items ++ flat_map (line_of fills marks) l.fn.held.keys
