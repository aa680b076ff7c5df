-- The heads before a place are sliced.
use Rattle.std.proofs.Common.{◌≡◌, List, ◌++◌, length, take}
use Rattle.lean_items.specs.declared.arrival.Arrival.{Arrival}
use Rattle.frontier_sync.specs.Heads.{AreRising, AreOpen}
use Rattle.frontier_sync.specs.Seen.{IsSeen}
use Rattle.frontier_sync.specs.Stays.{Stays}
use Rattle.frontier_sync.proofs.SliceLemmas.{SlicedTo}
use Rattle.frontier_sync.proofs.refill.refill_all.Given as goal

abbrev pub invariant-heads : goal.invariant-heads
invariant-heads g l =
    let first = l.fn.pool in
    let now = l.pool in
    record {
      sliced : SlicedTo (g.P.Pool.stands first) (g.P.Pool.stands now) l.at.0 l.place l.fn.heads.items l.heads.items l.fn.out.items l.out.items;
      size : length l.heads.items ≡ l.place-end;
      rising : AreRising l.heads.items;
      opened : AreOpen (g.P.Pool.is_open now) l.heads.items;
      seen : IsSeen (take l.place l.heads.items) l.seen;
      front : (more : List Arrival) × (l.out.items ≡ l.fn.out.items ++ more);
      added : g.P.Pool.added now ≡ g.P.Pool.added first;
      stays : Stays g.P.Pool.files g.P.Pool.lists g.P.Pool.faults g.P.Pool.place first now;
    }
