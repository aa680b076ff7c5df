use Rattle.std.proofs.Common.{◌-◌, ◌≡◌, ◌≤◌, true}
use Rattle.line_source.specs.Reader.{hand_of, number_of}
use Rattle.file_tests.proofs.lines.list_lines.Given as goal

abbrev pub invariant-lines : goal.invariant-lines
invariant-lines g l = record {
  opened : g.H.Hand.is_open (hand_of l.lines) ≡ true;
  few : number_of l.lines ≤ 10_000_000;
}

abbrev pub decreases-lines : goal.decreases-lines
decreases-lines g l = 10_000_000 - number_of l.lines
