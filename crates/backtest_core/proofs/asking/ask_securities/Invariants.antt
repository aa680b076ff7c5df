use Rattle.std.proofs.Common.{◌≡◌, ◌++◌, ℕ, true, List, take, flat_map}
use Rattle.std.specs.List.{AllZip, AllByRecursion as Each}
use Rattle.exchange_hours.specs.Sessions.{moment}
use Rattle.bar_windows.specs.declared.spec.WindowSpec.{WindowSpec}
use Rattle.clock_book.specs.Seen.{Seen}
use Rattle.clock_run.specs.Requests.{security_requests}
use Rattle.backtest_core.specs.Standing.{Followed, history}
use Rattle.backtest_core.specs.Watching.{WatchesAt}
use Rattle.backtest_core.specs.Mirror.{Sees}
use Rattle.backtest_core.specs.Asking.{FindsRule, HasWindows}
use Rattle.backtest_core.specs.Phases.{AreOf}
use Rattle.backtest_core.proofs.asking.ask_securities.Given as goal

abbrev pub invariant-loop-security : goal.invariant-loop-security
invariant-loop-security l =
    ((t : ℕ) (seen : Seen) (fs : List Followed) (specs : List WindowSpec) → l.fn.at ≡ moment t → Sees l.fn.mirror seen
    → AllZip (WatchesAt t) l.fn.watched fs → Each (HasWindows specs) l.fn.watched → FindsRule specs l.fn.places l.fn.rule
    → l.out.items ≡ l.fn.out.items ++ flat_map (λ f. security_requests seen t l.fn.rule (history f)) (take l.security-index fs))
    × (AreOf l.fn.at.0 true l.fn.out.items → AreOf l.fn.at.0 true l.out.items)
