use Rattle.backtest_engine.proofs.OpeningLemmas.{opening-is}
use Rattle.backtest_engine.proofs.opening.openings.Goals as goal

pub returns : goal.returns
returns c = opening-is
