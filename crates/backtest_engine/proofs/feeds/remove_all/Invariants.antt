-- The first feeds were removed.
use Rattle.std.proofs.Common.{◌≡◌, drop}
use Rattle.lean_items.specs.Taken.{Start, Feeds}
use Rattle.frontier_sync.specs.Heads.{AreOpen}
use Rattle.frontier_sync.specs.Stays.{Stays}
use Rattle.backtest_engine.specs.Opened.{without_heads}
use Rattle.backtest_engine.proofs.feeds.remove_all.Given as goal

abbrev pub invariant-removed : goal.invariant-removed
invariant-removed g l =
    let first = l.fn.pool in
    let now = l.pool in
    record {
      opened : AreOpen (g.P.Pool.is_open now) l.heads;
      heads : without_heads l.heads (drop l.place l.removed) ≡ without_heads l.fn.heads l.removed;
      added : g.P.Pool.added now ≡ g.P.Pool.added first;
      stands : (before : Start) (feeds : Feeds) → g.P.Pool.stands first before feeds → g.P.Pool.stands now before feeds;
      stays : Stays g.P.Pool.files g.P.Pool.lists g.P.Pool.faults g.P.Pool.place first now;
    }
