-- The bytes so far were taken, and this write was counted.
use Rattle.std.proofs.Common.{length, ◌-◌, ◌≡◌, ◌++◌, ◌≤◌, take}
use Rattle.lean_fixed.specs.Counts.{raised}
use Rattle.lean_top.proofs.close_tail.CloseTailSink.write.Given as goal

abbrev pub invariant-loop-taken : goal.invariant-loop-taken
invariant-loop-taken l = record {
  bytes : l.self.bytes ≡ l.fn.self.bytes ++ take l.taken l.bytes;
  within : l.taken ≤ length l.bytes;
  writes : l.self.writes ≡ raised l.fn.self.writes 1;
  faults : l.self.faults ≡ l.fn.self.faults;
}

abbrev pub decreases-loop-taken : goal.decreases-loop-taken
decreases-loop-taken l = length l.bytes - l.taken
