use Rattle.std.proofs.Common.{◌≡◌, drop}
use Rattle.universe_state.specs.Active.{is_active}
use Rattle.backtest_core.specs.Leaving.{actives_of}
use Rattle.backtest_core.proofs.selecting.is_active.Given as goal

abbrev pub invariant-loop-security : goal.invariant-loop-security
invariant-loop-security l = is_active (actives_of l.watched) l.symbol ≡ is_active (actives_of (drop l.security-index l.watched)) l.symbol
