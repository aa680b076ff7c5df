use Rattle.std.proofs.Common.{◌≡◌, ℕ, ◌+◌, ◌≤◌, cond}
use Rattle.lean_items.specs.Taken.{Start, no_feeds}
use Rattle.pool_tests.specs.Each.{only}
use Rattle.pool_tests.proofs.taking.take_all.Given as goal

abbrev pub invariant-items : goal.invariant-items
invariant-items g l = record {
  taken : (before : Start) → g.P.Pool.stands l.fn.pool before no_feeds
      → g.P.Pool.stands l.pool before (only l.feed.0 (record { key = l.fn.key; items = l.items.items }));
  opened : g.P.Pool.is_open l.pool l.feed.0 ≡ l.open;
  lists : g.P.Pool.lists l.pool ≡ g.P.Pool.lists l.fn.pool;
  files : g.P.Pool.files l.pool ≡ g.P.Pool.files l.fn.pool;
  grows : g.P.Pool.faults l.fn.pool ≤ g.P.Pool.faults l.pool;
  place : g.P.Pool.place l.pool ≡ g.P.Pool.place l.fn.pool;
}

-- the rows that can still be taken, and the last item
abbrev pub decreases-items : goal.decreases-items
decreases-items g l = cond l.open (g.P.Pool.room l.pool l.feed.0 + 1) 0
