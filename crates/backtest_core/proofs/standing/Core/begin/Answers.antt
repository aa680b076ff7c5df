use Rattle.backtest_core.proofs.CoreLemmas.{lasts}
use Rattle.backtest_core.proofs.standing.Core.begin.Goals as goal

pub invariant_of-result-clause-lengths : goal.invariant_of-result-clause-lengths
invariant_of-result-clause-lengths c = c.in_ok-table.ensures.lengths

pub invariant_of-result-clause-periods : goal.invariant_of-result-clause-periods
invariant_of-result-clause-periods c = lasts c.args.plan.universe c.requires.universe
