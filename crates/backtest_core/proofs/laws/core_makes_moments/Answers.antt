use Rattle.backtest_core.proofs.StartLemmas.{begins}
use Rattle.backtest_core.proofs.MomentLemmas.{makes-lines, makes-standing, makes-feeds, makes-traded, makes-served}
use Rattle.backtest_core.proofs.laws.core_makes_moments.Goals as goal

pub returns-clause-arrives : goal.returns-clause-arrives
returns-clause-arrives c = λ setup t before known slice s ties. (begins setup t before known slice s ties).lines

pub returns-clause-lines : goal.returns-clause-lines
returns-clause-lines c = makes-lines

pub returns-clause-stands : goal.returns-clause-stands
returns-clause-stands c = makes-standing

pub returns-clause-traded : goal.returns-clause-traded
returns-clause-traded c = makes-traded

pub returns-clause-serves : goal.returns-clause-serves
returns-clause-serves c = makes-served

pub returns-clause-feeds : goal.returns-clause-feeds
returns-clause-feeds c = makes-feeds
