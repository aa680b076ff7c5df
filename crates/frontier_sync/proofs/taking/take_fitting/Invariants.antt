-- The items that were taken so far do not fit.
use Rattle.std.proofs.Common.{◌≡◌, ℕ, ◌≤◌, false, List}
use Rattle.std.specs.List.{All}
use Rattle.lean_items.specs.declared.item.Item.{Item}
use Rattle.frontier_sync.specs.Heads.{fits_by}
use Rattle.frontier_sync.specs.Slices.{TakesOfOne}
use Rattle.frontier_sync.specs.Stays.{Stays}
use Rattle.frontier_sync.proofs.taking.take_fitting.Given as goal

abbrev pub invariant-taken : goal.invariant-taken
invariant-taken g l =
    let first = l.fn.pool in
    let now = l.pool in
    record {
      took : (passed : List Item) × All (λ item. fits_by l.first l.after.0 item ≡ false) passed
          × TakesOfOne (g.P.Pool.stands first) (g.P.Pool.stands now) l.feed.0 passed;
      opened : (n : ℕ) → g.P.Pool.is_open now n ≡ g.P.Pool.is_open first n;
      fewer : g.P.Pool.room now l.feed.0 ≤ g.P.Pool.room first l.feed.0;
      added : g.P.Pool.added now ≡ g.P.Pool.added first;
      stays : Stays g.P.Pool.files g.P.Pool.lists g.P.Pool.faults g.P.Pool.place first now;
    }

abbrev pub decreases-taken : goal.decreases-taken
decreases-taken g l = g.P.Pool.room l.pool l.feed.0
