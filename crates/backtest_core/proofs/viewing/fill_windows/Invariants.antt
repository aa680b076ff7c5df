use Rattle.std.proofs.Common.{◌≡◌, List, map, take}
use Rattle.lean_fixed.specs.declared.money.Price.{Price}
use Rattle.bar_windows.specs.Recent.{StandsFor as WindowsStandFor}
use Rattle.backtest_core.specs.Asking.{value_at}
use Rattle.backtest_core.proofs.viewing.fill_windows.Given as goal

abbrev pub invariant-loop-place : goal.invariant-loop-place
invariant-loop-place l =
    (closes : List Price) → WindowsStandFor l.windows closes
    → l.values-inside.0.items ≡ map (value_at closes l.windows.specs) (take l.place-index l.places)
