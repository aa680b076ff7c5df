use Rattle.std.proofs.Common.{◌≡◌, ◌++◌, ℕ, map, drop}
use Rattle.exchange_hours.specs.Sessions.{moment}
use Rattle.clock_run.specs.States.{listed}
use Rattle.backtest_engine.proofs.opening.add_listed.Given as goal

abbrev pub invariant-loop-security : goal.invariant-loop-security
invariant-loop-security l =
    (t : ℕ) → l.start ≡ moment t
    → l.fn.out.items ++ map (λ security. (listed t 0 security).key) l.securities
    ≡ l.out.items ++ map (λ security. (listed t 0 security).key) (drop l.security-index l.securities)
