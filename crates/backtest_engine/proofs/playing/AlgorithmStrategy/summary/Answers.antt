use Rattle.backtest_engine.proofs.TellLemmas.{summary-is}
use Rattle.backtest_engine.proofs.playing.AlgorithmStrategy.summary.Goals as goal

pub returns-in-Ok : goal.returns-in-Ok
returns-in-Ok c m s b book =
    summary-is m c.args.self.now s c.args.out.now.items c.summary.new.out.items b
    (c.in-Ok.ensures.ok s.book b.setup.plan.cash.0 s.own.equities book b.stats)
