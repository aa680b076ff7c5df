use Rattle.backtest_engine.proofs.ArriveLemmas.{arrives-ok, arrives-err}
use Rattle.backtest_engine.proofs.playing.AlgorithmStrategy.arrive.Goals as goal

pub returns-in-Ok-clause-arrives : goal.returns-in-Ok-clause-arrives
returns-in-Ok-clause-arrives c m s t b met is =
    arrives-ok m c.args.self.now c.arrive.new.self c.args.at t c.args.slice.now s _ b met is c.requires
    c.arrive.ensures.at c.arrive.ensures.requests c.in-Ok.ensures.arrived

pub returns-in-Err-clause-arrives : goal.returns-in-Err-clause-arrives
returns-in-Err-clause-arrives c m s t b met is =
    rw c.stop_of.ensures (arrives-err m c.args.self.now c.arrive.new.self c.args.at t c.args.slice.now s c.in-Err.stop b met is c.in-Err.ensures.stops)
