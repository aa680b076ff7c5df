use Rattle.std.proofs.Common.{subst, sym}
use Rattle.report_pages.specs.Printed.{IsFront}
use Rattle.report_pages.proofs.PrintedLemmas.{IsFront-take}
use Rattle.backtest_engine.specs.declared.ending.Cut.TheVariants.{WriteFault}
use Rattle.backtest_engine.specs.Moved.{Halted}
use Rattle.backtest_engine.proofs.minute.stopped.Goals as goal

pub returns-in-Err-clause-wrote : goal.returns-in-Err-clause-wrote
returns-in-Err-clause-wrote g c =
    let told0 = g.S.Sink.told c.args.out.now in
    let told = g.S.Sink.told c.write_whole.new.sink in
    let front = IsFront-take told0 told c.text.result.now c.in-Err.ensures.err in
    subst (λ z. Halted (g.C.Strategy.text c.args.core.now) z told0 told WriteFault) (sym c.in-Limited.is) (subst (λ xs. IsFront told0 told xs) c.text.ensures front)
