use Rattle.std.proofs.Common.{refl}
use Rattle.std.specs.Arc.{arc_value}
use Rattle.backtest_engine.proofs.OpeningLemmas.{begins}
use Rattle.backtest_engine.proofs.algorithm.Algorithm.begin.Goals as goal

pub returns-in-Ok : goal.returns-in-Ok
returns-in-Ok c =
    begins (record { alloc = c.args.alloc; core = c.in-Ok.core; hours = c.args.hours; stats = c.new-stats.result })
    (record { plan = c.args.plan; hours = arc_value c.args.hours }) (arc_value c.in_ok-own.own) c.in_ok-own.ensures.cases c.in-Ok.ensures refl c.new-stats.ensures
