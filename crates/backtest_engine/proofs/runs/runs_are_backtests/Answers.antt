use Rattle.backtest_engine.proofs.RunsWalks.{meets}
use Rattle.backtest_engine.proofs.RunsEnds.{reports, ends, prints}
use Rattle.backtest_engine.proofs.runs.runs_are_backtests.Goals as goal

pub returns-clause-report : goal.returns-clause-report
returns-clause-report c = reports

pub returns-clause-ended : goal.returns-clause-ended
returns-clause-ended c = ends

pub returns-clause-moments : goal.returns-clause-moments
returns-clause-moments c setup world lists plan ranged tells count small = prints setup world lists plan ranged tells count

pub returns-clause-meets : goal.returns-clause-meets
returns-clause-meets c setup world lists plan ranged tells count small none = meets setup world lists plan ranged tells count none
