use Rattle.std.proofs.Common.{inl, inr, refl}
use Rattle.report_pages.proofs.PrintedLemmas.{IsFront-take}
use Rattle.backtest_engine.proofs.last.print_last.Goals as goal

pub returns-in-Err-clause-told : goal.returns-in-Err-clause-told
returns-in-Err-clause-told g c =
    inr (inl refl, IsFront-take (g.S.Sink.told c.args.out.now) (g.S.Sink.told c.write_whole.new.sink) c.args.text.now c.in-Err.ensures.err)
