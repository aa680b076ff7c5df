use Rattle.order_book.specs.Stands.{StandsFor}
use Rattle.backtest_engine.proofs.StartLemmas.{report-whole, report-refused}
use Rattle.backtest_engine.proofs.last.end.Goals as goal

pub returns-in-Whole-clause-told : goal.returns-in-Whole-clause-told
returns-in-Whole-clause-told g c m lists first last s0 coarse now b told0 h kept =
    report-whole m lists first last s0 coarse now (g.C.Strategy.stands c.args.core.now m) (StandsFor c.args.book.now) b told0 (g.S.Sink.told c.args.out.now) (g.S.Sink.told c.print_summary.new.out)
    c.args.walked c.in-Ok.ending c.print_summary.result c.in-Ok.is c.in-Whole.is h kept (λ z stand k. c.print_summary.ensures.told m z stand k)

pub returns-in-Refused-clause-told : goal.returns-in-Refused-clause-told
returns-in-Refused-clause-told g c m lists first last s0 coarse now b told0 h kept =
    report-refused m lists first last s0 coarse now (g.C.Strategy.stands c.args.core.now m) b told0 (g.S.Sink.told c.args.out.now) (g.S.Sink.told c.print_refusal.new.out)
    c.args.walked c.in-Ok.ending c.in-Refused.key c.in-Refused.bad c.print_refusal.result c.in-Ok.is c.in-Refused.is h c.print_refusal.ensures.told
