-- A write that fails took a front of the text.
use Rattle.std.proofs.Common.{◌++◌, ◌∙◌, ap, subst}
use Rattle.report_pages.specs.Printed.{IsFront}
use Rattle.report_pages.proofs.PrintedLemmas.{IsFront-take}
use Rattle.lean_top.specs.Report.{demo_line}
use Rattle.lean_top.proofs.demo.print_end.Goals as goal

pub returns-in-Ok-clause-reported : goal.returns-in-Ok-clause-reported
returns-in-Ok-clause-reported g c =
    subst (IsFront (g.S.Sink.told c.args.out.now) (g.S.Sink.told c.write_whole.new.sink))
    (c.deref-in-Ok.ensures.value ∙ (c.in-Ok.ensures ∙ ap (λ text. demo_line c.args.number ++ text) c.deref.ensures.value))
    (IsFront-take _ _ _ c.in-Err-write_whole.ensures.err)
