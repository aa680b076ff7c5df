use Rattle.backtest_core.proofs.ListLemmas.{AreHearing}
use Rattle.backtest_core.proofs.watchlist.arrive_all.Given as goal

abbrev pub invariant-loop-i : goal.invariant-loop-i
invariant-loop-i l = AreHearing l.slice l.fn.watched.items l.watched.items l.from l.i
