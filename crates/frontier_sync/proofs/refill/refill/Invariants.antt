-- What was taken of the feed, and what was given.
use Rattle.std.proofs.Common.{◌≡◌, ◌≢◌, ℕ, ◌+◌, true, cond, List, ◌++◌, map}
use Rattle.lean_items.specs.declared.item.Item.{Item}
use Rattle.lean_items.specs.Given.{is_last, IsRow}
use Rattle.frontier_sync.specs.Heads.{arrival}
use Rattle.frontier_sync.specs.Slices.{TakesOfOne}
use Rattle.frontier_sync.specs.Stays.{Stays}
use Rattle.frontier_sync.proofs.RefillLemmas.{Sofar}
use Rattle.frontier_sync.proofs.refill.refill.Given as goal

abbrev pub invariant-items : goal.invariant-items
invariant-items g l =
    let first = l.fn.pool in
    let now = l.pool in
    let number = l.fn.head.feed in
    record {
      feed : l.head.feed ≡ number;
      took : (taken given : List Item) × Sofar l.at.0 l.fn.head.item taken given l.head.item
          × (l.out.items ≡ l.fn.out.items ++ map (arrival number) given)
          × TakesOfOne (g.P.Pool.stands first) (g.P.Pool.stands now) number.0 taken;
      opened : IsRow l.head.item → g.P.Pool.is_open now number.0 ≡ true;
      others : (n : ℕ) → n ≢ number.0 → g.P.Pool.is_open now n ≡ g.P.Pool.is_open first n;
      added : g.P.Pool.added now ≡ g.P.Pool.added first;
      stays : Stays g.P.Pool.files g.P.Pool.lists g.P.Pool.faults g.P.Pool.place first now;
    }

abbrev pub decreases-items : goal.decreases-items
decreases-items g l = cond (is_last l.head.item) 0 (g.P.Pool.room l.pool l.feed.0 + 1)
