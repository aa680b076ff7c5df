use Rattle.std.proofs.Common.{◌≡◌, ◌+◌, cond}
use Rattle.std.specs.Prelude.{not}
use Rattle.pool_tests.proofs.TookLemmas.{Took}
use Rattle.pool_tests.proofs.taking.take_feed.Given as goal

abbrev pub invariant-items : goal.invariant-items
invariant-items g l = record {
  took : Took g.G.Feed.leaves g.G.Feed.faults l.fn.feed l.feed l.open l.items.items;
  ended : g.G.Feed.has_ended l.feed ≡ not l.open;
}

-- the rows that are left, and the last item
abbrev pub decreases-items : goal.decreases-items
decreases-items g l = cond l.open (g.G.Feed.room l.feed + 1) 0
