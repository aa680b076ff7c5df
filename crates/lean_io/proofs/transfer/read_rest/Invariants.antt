use Rattle.std.proofs.Common.{true, Some, ◌+◌, ◌-◌, ◌≡◌, ◌≤◌, ◌++◌, vec_len}
use Rattle.lean_io.specs.Told.{Files}
use Rattle.lean_io.proofs.transfer.read_rest.Given as goal

abbrev pub invariant-pieces : goal.invariant-pieces
invariant-pieces g l = record {
  opened : g.H.Hand.is_open l.hand ≡ true;
  kept : g.H.Hand.files l.hand ≡ g.H.Hand.files l.fn.hand;
  grows : g.H.Hand.faults l.fn.hand ≤ g.H.Hand.faults l.hand;
  within : vec_len l.text ≤ l.most;
  front : (f : Files) → g.H.Hand.files l.fn.hand ≡ Some f → g.H.Hand.rest l.fn.hand ≡ l.text.items ++ g.H.Hand.rest l.hand;
}

abbrev pub decreases-pieces : goal.decreases-pieces
decreases-pieces g l = l.most + 1 - vec_len l.text
