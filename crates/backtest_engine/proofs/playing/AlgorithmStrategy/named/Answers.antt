use Rattle.std.proofs.Common.{sym, ◌∙◌}
use Rattle.backtest_core.proofs.LiveLemmas.{on_ok}
use Rattle.backtest_engine.proofs.NamedLemmas.{named-coarse, named-listed}
use Rattle.backtest_engine.proofs.playing.AlgorithmStrategy.named.Goals as goal

pub returns-in-None-clause-named : goal.returns-in-None-clause-named
returns-in-None-clause-named c m s keys stands number =
    named-coarse c.args.self.now m s c.args.key.now keys (sym c.symbol_in.ensures ∙ c.in-None.is) stands

pub returns-in-Some-clause-named : goal.returns-in-Some-clause-named
returns-in-Some-clause-named c =
    on_ok c.named.result
    (λ stand m s keys stands number. named-listed c.args.self.now c.named.new.self m s c.args.key.now keys c.in-Some.symbol c.args.feed.0
    (sym c.symbol_in.ensures ∙ c.in-Some.is) stand stands number)
    c.named.ensures.named
