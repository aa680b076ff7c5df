use Rattle.std.proofs.Common.{◌≡◌, ◌++◌, ℕ, map, drop, vec_len}
use Rattle.exchange_hours.specs.Sessions.{moment}
use Rattle.clock_run.specs.States.{listed}
use Rattle.backtest_core.specs.Waiting.{subscriptions_in}
use Rattle.backtest_core.proofs.joining.wait_listed.Given as goal

abbrev pub invariant-loop-security : goal.invariant-loop-security
invariant-loop-security l =
    (vec_len l.waiting ≡ l.security-index)
    × ((t : ℕ) → l.start ≡ moment t
    → map (listed t 0) l.securities ≡ subscriptions_in l.waiting.items ++ map (listed t 0) (drop l.security-index l.securities))
