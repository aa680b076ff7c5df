use Rattle.report_pages.specs.Printed.{HasRoom}
use Rattle.daily_tape.proofs.Stepping.{Stepped}
use Rattle.std.proofs.Common.{◌≤◌}
use Rattle.daily_tape.proofs.printing.print_step.Given as goal

abbrev pub invariant-loop-place : goal.invariant-loop-place
invariant-loop-place g l =
    Stepped g.H.Hand.is_open g.H.Hand.faults g.H.Hand.files g.H.Hand.rest l.step l.fn.sources.items l.sources.items l.place l.rows
    (g.S.Sink.told l.fn.out) (g.S.Sink.told l.out) l.fn.page l.page
    × HasRoom l.page
    × (g.S.Sink.faults l.fn.out ≤ g.S.Sink.faults l.out)
