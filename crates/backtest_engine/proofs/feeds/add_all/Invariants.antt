-- The feeds of the first keys were added.
use Rattle.std.proofs.Common.{◌≡◌, ◌+◌, ◌≤◌, length, take, drop}
use Rattle.lean_items.specs.Taken.{Start, Feeds}
use Rattle.frontier_sync.specs.Heads.{AreOpen}
use Rattle.frontier_sync.specs.Stays.{Stays}
use Rattle.backtest_engine.specs.Meaning.{Meaning, State}
use Rattle.backtest_engine.specs.Stands.{IsEarlier, Stock}
use Rattle.backtest_engine.specs.Opened.{AreNumbered, Opened}
use Rattle.backtest_engine.proofs.feeds.add_all.Given as goal

abbrev pub invariant-keys : goal.invariant-keys
invariant-keys g l =
    let first = l.fn.pool in
    let now = l.pool in
    record {
      opened : AreOpen (g.P.Pool.is_open now) l.heads;
      numbered : AreNumbered (g.P.Pool.added now) l.heads;
      kept : length l.keys.items ≡ g.P.Pool.added now;
      added : g.P.Pool.added now ≡ g.P.Pool.added first + l.place;
      named : (m : Meaning g.C.Strategy.Own) (s : State g.C.Strategy.Own) → g.C.Strategy.stands l.fn.core m s l.added
          → g.P.Pool.added first + length l.added ≡ m.added s.own → g.C.Strategy.stands l.core m s (drop l.place l.added);
      orders : g.C.Strategy.orders l.core ≤ g.C.Strategy.orders l.fn.core;
      known : (before : Start) (feeds : Feeds) → Stock (g.P.Pool.stands first) before (g.P.Pool.added first) l.fn.heads l.fn.keys.items feeds
          → (later : Feeds) × IsEarlier feeds later
          × Opened (g.P.Pool.stands now) before (g.P.Pool.added first) (g.P.Pool.added now) feeds later l.fn.heads l.heads l.keys.items (take l.place l.added);
      stays : Stays g.P.Pool.files g.P.Pool.lists g.P.Pool.faults g.P.Pool.place first now;
    }
