use Rattle.std.proofs.Common.{◌∙◌}
use Rattle.backtest_engine.proofs.TellLemmas.{closes-next}
use Rattle.backtest_engine.proofs.playing.AlgorithmStrategy.next_close.Goals as goal

pub returns : goal.returns
returns c m s t last b from to =
    closes-next m c.args.self.now s c.deref.result.now c.args.after c.args.until t last c.close_next.result b (c.deref.ensures ∙ b.hours) from to
    (λ u none. c.closings.ensures.not_told c.deref.result.now u none) c.close_next.ensures
