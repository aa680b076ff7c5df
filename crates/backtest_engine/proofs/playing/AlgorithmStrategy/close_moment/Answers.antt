use Rattle.backtest_engine.proofs.CloseLemmas.{closes}
use Rattle.backtest_engine.proofs.playing.AlgorithmStrategy.close_moment.Goals as goal

pub returns-in-Ok-clause-closes : goal.returns-in-Ok-clause-closes
returns-in-Ok-clause-closes c m turn cs rs w finished is =
    closes m c.args.self.now c.close_moment.new.self turn cs rs c.in-Ok.changes.added.items c.in-Ok.changes.removed.items w finished c.in-Ok.ensures.closes
