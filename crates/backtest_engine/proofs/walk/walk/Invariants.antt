-- How far a run has come.
use Rattle.std.proofs.Common.{◌≡◌, ◌+◌, ◌-◌, ◌*◌, ◌≤◌, false, length}
use Rattle.clock_book.specs.Fitting.{most_orders}
use Rattle.frontier_sync.specs.Heads.{AreOpen}
use Rattle.frontier_sync.specs.Stays.{Stays}
use Rattle.backtest_engine.specs.Turns.{most_of_moment}
use Rattle.backtest_engine.specs.Opened.{AreNumbered}
use Rattle.backtest_engine.proofs.KnownLemmas.{Known}
use Rattle.backtest_engine.proofs.walk.walk.Given as goal

abbrev pub invariant-moments : goal.invariant-moments
invariant-moments g l =
    let P = g.P.Pool in
    let D = g.D.Desk in
    let C = g.C.Strategy in
    record {
      known : Known l.fn.coarse l.fn.first l.fn.last (D.stands l.fn.desk) (P.stands l.fn.pool) (P.added l.fn.pool) l.fn.heads l.fn.keys.items (C.stands l.fn.core) C.meets (g.S.Sink.told l.fn.out)
          (D.stands l.desk) (P.stands l.pool) (P.added l.pool) l.heads l.keys.items (C.stands l.core) l.at (g.S.Sink.told l.out);
      low : l.first ≤ l.at;
      high : l.at ≤ l.last;
      fed : D.starved l.desk ≡ false;
      done : D.answered l.desk ≡ D.submitted l.desk;
      few : D.submitted l.desk + P.added l.pool ≤ 2000 + l.at * (2 * most_of_moment);
      orders : D.orders l.desk + C.orders l.core ≤ most_orders;
      opened : AreOpen (P.is_open l.pool) l.heads;
      numbered : AreNumbered (P.added l.pool) l.heads;
      kept : length l.keys.items ≡ P.added l.pool;
      sink_grows : g.S.Sink.faults l.fn.out ≤ g.S.Sink.faults l.out;
      stays : Stays P.files P.lists P.faults P.place l.fn.pool l.pool;
    }

abbrev pub decreases-moments : goal.decreases-moments
decreases-moments g l = l.last - l.at
