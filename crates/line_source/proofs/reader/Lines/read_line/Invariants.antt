use Rattle.std.proofs.Common.{◌-◌, ◌≡◌, ◌≤◌, true, Some}
use Rattle.lean_io.specs.Told.{Files}
use Rattle.line_source.specs.Written.{has_no_lf}
use Rattle.line_source.specs.Reader.{ahead_of, unread}
use Rattle.line_source.proofs.reader.Lines.read_line.Given as goal

abbrev pub invariant-reads : goal.invariant-reads
invariant-reads g l = record {
  opened : g.H.Hand.is_open l.self.hand ≡ true;
  front : l.self.from ≡ 0;
  whole : has_no_lf (ahead_of l.self) ≡ true;
  left : (f : Files) → g.H.Hand.files l.fn.self.hand ≡ Some f
      → unread g.H.Hand.rest l.fn.self ≡ unread g.H.Hand.rest l.self;
  number : l.self.number ≡ l.fn.self.number;
  kept : g.H.Hand.files l.self.hand ≡ g.H.Hand.files l.fn.self.hand;
  grows : g.H.Hand.faults l.fn.self.hand ≤ g.H.Hand.faults l.self.hand;
}

abbrev pub decreases-reads : goal.decreases-reads
decreases-reads g l = 256 - l.self.to
