use Rattle.backtest_engine.proofs.WorldTells.{folder-tells}
use Rattle.backtest_engine.proofs.laws.folders_tell_worlds.Goals as goal

pub returns : goal.returns
returns c = folder-tells
