use Rattle.std.proofs.Common.{length, ◌+◌, ◌-◌, ◌≡◌, ◌≤◌, ◌++◌, take, option_map}
use Rattle.lean_io.proofs.transfer.write_whole.Given as goal

abbrev pub invariant-loop-done : goal.invariant-loop-done
invariant-loop-done g l = record {
  within : l.done ≤ length l.bytes;
  told : g.S.Sink.told l.sink ≡ option_map (λ b. b ++ take l.done l.bytes) (g.S.Sink.told l.fn.sink);
  few : g.S.Sink.writes l.sink ≤ g.S.Sink.writes l.fn.sink + l.done;
  grows : g.S.Sink.faults l.fn.sink ≤ g.S.Sink.faults l.sink;
}

abbrev pub decreases-loop-done : goal.decreases-loop-done
decreases-loop-done g l = length l.bytes - l.done
