use Rattle.std.proofs.Common.{ap, sym, ◌∙◌}
use Rattle.backtest_engine.specs.Algorithms.{core_phase_of}
use Rattle.backtest_engine.proofs.GiveLemmas.{gives-ok, gives-err}
use Rattle.backtest_engine.proofs.playing.AlgorithmStrategy.next_command.Goals as goal

pub returns-in-Ok-clause-gives : goal.returns-in-Ok-clause-gives
returns-in-Ok-clause-gives c m turn cs w same =
    gives-ok m c.args.self.now c.next_command.new.self turn cs c.core_phase_of.result c.in-Ok.command w
    (c.core_phase_of.ensures ∙ ap core_phase_of (sym same)) c.next_command.ensures.numbers c.in-Ok.ensures.gives c.in-Ok.ensures.next

pub returns-in-Err-clause-gives : goal.returns-in-Err-clause-gives
returns-in-Err-clause-gives c m turn cs w same =
    rw c.stop_of.ensures
    (gives-err m c.args.self.now c.next_command.new.self turn cs c.core_phase_of.result c.in-Err.stop w
    (c.core_phase_of.ensures ∙ ap core_phase_of (sym same)) c.next_command.ensures.numbers c.in-Err.ensures.stops)
