-- A write took the page, or one that fails a front of it.
use Rattle.std.proofs.Common.{refl, subst}
use Rattle.report_pages.specs.Printed.{IsTaken}
use Rattle.report_pages.proofs.PrintedLemmas.{IsFront-take}
use Rattle.report_pages.proofs.pages.flush.Goals as goal

pub returns-in-Ok-clause-ok : goal.returns-in-Ok-clause-ok
returns-in-Ok-clause-ok g c = record {
  written = c.args.page.now;
  taken = subst (IsTaken (g.S.Sink.told c.args.out.now) (g.S.Sink.told c.write_whole.new.sink)) c.written.ensures c.in-Ok.ensures.ok;
  rest = refl;
}

pub returns-in-Err-clause-front : goal.returns-in-Err-clause-front
returns-in-Err-clause-front g c = rw (← c.written.ensures) (IsFront-take _ _ _ c.in-Err.ensures.err)
