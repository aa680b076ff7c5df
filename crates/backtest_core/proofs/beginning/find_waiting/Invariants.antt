use Rattle.backtest_core.proofs.NamingLemmas.{IsPassed}
use Rattle.backtest_core.proofs.beginning.find_waiting.Given as goal

abbrev pub invariant-loop-place : goal.invariant-loop-place
invariant-loop-place l = IsPassed l.symbol l.waiting l.place
