use Rattle.std.proofs.Common.{◌≡◌, ℕ, List, drop, cond}
use Rattle.portfolio.specs.Symbols.{same_symbol}
use Rattle.clock_book.specs.Seen.{without_id}
use Rattle.backtest_core.specs.Mirror.{listed, has_symbol}
use Rattle.backtest_core.proofs.live.take_out_all.Given as goal

abbrev pub invariant-loop-order : goal.invariant-loop-order
invariant-loop-order l =
    (s : List ℕ)
    → cond (has_symbol s (drop l.order-index l.orders)) (without_id l.id (listed same_symbol l.by_symbol.entries s)) (listed same_symbol l.by_symbol.entries s)
    ≡ cond (has_symbol s l.orders) (without_id l.id (listed same_symbol l.fn.by_symbol.entries s)) (listed same_symbol l.fn.by_symbol.entries s)
