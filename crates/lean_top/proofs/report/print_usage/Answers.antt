-- A write that fails took a front of the line.
use Rattle.report_pages.proofs.PrintedLemmas.{IsFront-take}
use Rattle.lean_top.proofs.report.print_usage.Goals as goal

pub returns-in-Err-clause-printed : goal.returns-in-Err-clause-printed
returns-in-Err-clause-printed g c = IsFront-take _ _ _ c.in-Err.ensures.err
