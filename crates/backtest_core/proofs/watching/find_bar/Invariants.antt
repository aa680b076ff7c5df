use Rattle.std.proofs.Common.{◌≡◌, ◌≤◌, ℕ, drop}
use Rattle.backtest_core.specs.Inside.{bars_in}
use Rattle.backtest_core.proofs.watching.find_bar.Given as goal

abbrev pub invariant-loop-place : goal.invariant-loop-place
invariant-loop-place l = (later : ℕ) → l.feed.0 ≤ later → bars_in (drop l.from l.slice) later ≡ bars_in (drop l.place l.slice) later
