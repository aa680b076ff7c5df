use Rattle.std.proofs.Common.{◌≡◌, ◌++◌, ℕ, true, List, take, flat_map, map}
use Rattle.std.specs.List.{AllZip, AllByRecursion as Each}
use Rattle.exchange_hours.specs.Sessions.{moment}
use Rattle.bar_windows.specs.declared.spec.WindowSpec.{WindowSpec}
use Rattle.clock_book.specs.Seen.{Seen}
use Rattle.clock_run.specs.Requests.{security_requests}
use Rattle.backtest_core.specs.Standing.{Followed, history}
use Rattle.backtest_core.specs.Watching.{WatchesAt}
use Rattle.backtest_core.specs.Mirror.{Sees}
use Rattle.backtest_core.specs.Asking.{FindsRule, HasWindows}
use Rattle.backtest_core.specs.Phases.{AreOf}
use Rattle.backtest_core.proofs.asking.ask_rules.Given as goal

abbrev pub invariant-loop-place : goal.invariant-loop-place
invariant-loop-place l =
    ((t : ℕ) (seen : Seen) (fs : List Followed) (specs : List WindowSpec) → l.fn.at ≡ moment t → Sees l.fn.mirror seen
    → AllZip (WatchesAt t) l.fn.watched fs → Each (HasWindows specs) l.fn.watched → AllZip (FindsRule specs) l.fn.places l.fn.rules
    → l.out.items ≡ l.fn.out.items ++ flat_map (λ rule. flat_map (security_requests seen t rule) (map history fs)) (take l.place l.fn.rules))
    × (AreOf l.fn.at.0 true l.fn.out.items → AreOf l.fn.at.0 true l.out.items)
