use Rattle.std.proofs.Common.{◌-◌, ◌≡◌, ◌≤◌, true, Some}
use Rattle.lean_io.specs.Told.{Files}
use Rattle.line_source.specs.Lines.{past_blank}
use Rattle.line_source.specs.Reader.{lines_left}
use Rattle.line_source.proofs.reader.Lines.next.Given as goal

abbrev pub invariant-lines : goal.invariant-lines
invariant-lines g l = record {
  opened : g.H.Hand.is_open l.self.hand ≡ true;
  few : l.self.number ≤ 10_000_000;
  later : l.fn.self.number ≤ l.self.number;
  left : (f : Files) → g.H.Hand.files l.fn.self.hand ≡ Some f
      → past_blank (lines_left g.H.Hand.rest l.fn.self) ≡ past_blank (lines_left g.H.Hand.rest l.self);
  kept : g.H.Hand.files l.self.hand ≡ g.H.Hand.files l.fn.self.hand;
  grows : g.H.Hand.faults l.fn.self.hand ≤ g.H.Hand.faults l.self.hand;
}

abbrev pub decreases-lines : goal.decreases-lines
decreases-lines g l = 10_000_001 - l.self.number
