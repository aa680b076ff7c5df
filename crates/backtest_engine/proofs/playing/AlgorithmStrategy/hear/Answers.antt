use Rattle.backtest_engine.proofs.HearLemmas.{heard-more}
use Rattle.backtest_engine.proofs.playing.AlgorithmStrategy.hear.Goals as goal

pub returns-in-Ok-clause-heard : goal.returns-in-Ok-clause-heard
returns-in-Ok-clause-heard c m turn cs rs w =
    heard-more m c.args.self.now c.hear.new.self c.tell_close.new.stats turn cs rs c.args.heard.now.reply w
    c.hear.ensures.numbers c.in-Ok.ensures.hears c.tell_close.ensures
