use Rattle.std.proofs.Common.{◌≡◌, ℕ, List, vec_len}
use Rattle.std.specs.List.{AllZip, AllByRecursion as Each}
use Rattle.bar_windows.specs.declared.spec.WindowSpec.{WindowSpec}
use Rattle.backtest_core.specs.Asking.{HasWindows}
use Rattle.backtest_core.specs.Standing.{Followed}
use Rattle.backtest_core.specs.Inside.{marked_so}
use Rattle.backtest_core.specs.Watching.{WatchesAt}
use Rattle.backtest_core.proofs.HalfwayLemmas.{Halfway}
use Rattle.backtest_core.proofs.leaving.mark_all.Given as goal

abbrev pub invariant-loop-i : goal.invariant-loop-i
invariant-loop-i l =
    (vec_len l.watched ≡ vec_len l.fn.watched)
    × ((t : ℕ) (fs : List Followed) → AllZip (WatchesAt t) l.fn.watched.items fs
    → Halfway (WatchesAt t) (λ w f. WatchesAt t w (marked_so l.symbols f)) l.i l.watched.items fs)
    × ((specs : List WindowSpec) → Each (HasWindows specs) l.fn.watched.items → Each (HasWindows specs) l.watched.items)
