use Rattle.std.proofs.Common.{◌≡◌, ◌++◌, ℕ, map, drop, vec_len}
use Rattle.exchange_hours.specs.Sessions.{moment}
use Rattle.clock_run.specs.States.{joining}
use Rattle.backtest_core.specs.Waiting.{subscriptions_in}
use Rattle.backtest_core.proofs.closing.join_all.Given as goal

abbrev pub invariant-loop-symbol : goal.invariant-loop-symbol
invariant-loop-symbol l =
    (vec_len l.waiting ≡ l.symbol-index)
    × ((t : ℕ) → l.at ≡ moment t
    → map (joining l.universe t 0) l.symbols ≡ subscriptions_in l.waiting.items ++ map (joining l.universe t 0) (drop l.symbol-index l.symbols))
