-- The first items were printed.
use Rattle.std.proofs.Common.{◌≡◌, ◌≤◌}
use Rattle.lean_fixed.specs.Printed.{moment_text}
use Rattle.report_pages.specs.Printed.{HasRoom}
use Rattle.session_tape.proofs.PrintLemmas.{Printing}
use Rattle.session_tape.proofs.printing.print_slice.Given as goal

abbrev pub invariant-items : goal.invariant-items
invariant-items g l = record {
  text : l.front ≡ moment_text l.at;
  printing : Printing l.symbols l.slice l.place l.rows (g.S.Sink.told l.fn.out) (g.S.Sink.told l.out) l.fn.page l.page;
  room : HasRoom l.page;
  grows : g.S.Sink.faults l.fn.out ≤ g.S.Sink.faults l.out;
}
