use Rattle.std.proofs.Common.{◌≡◌}
use Rattle.feed_workers.proofs.seat.Seat.bring_home.Given as goal

abbrev pub invariant-loop : goal.invariant-loop
invariant-loop g l = record {
  origin : l.self.origin.value ≡ l.fn.self.origin.value;
  reader : l.self.reader ≡ l.fn.self.reader;
}
