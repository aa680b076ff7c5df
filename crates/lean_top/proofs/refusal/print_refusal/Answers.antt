-- A write that fails took a front of the line.
use Rattle.std.proofs.Common.{◌∙◌, subst}
use Rattle.report_pages.specs.Printed.{IsFront}
use Rattle.report_pages.proofs.PrintedLemmas.{IsFront-take}
use Rattle.lean_top.proofs.refusal.print_refusal.Goals as goal

pub returns-in-Ok-clause-refused : goal.returns-in-Ok-clause-refused
returns-in-Ok-clause-refused g c =
    subst (IsFront (g.S.Sink.told c.args.out.now) (g.S.Sink.told c.write_whole.new.sink)) (c.deref.ensures.value ∙ c.in-Ok.ensures)
    (IsFront-take _ _ _ c.in-Err-write_whole.ensures.err)
