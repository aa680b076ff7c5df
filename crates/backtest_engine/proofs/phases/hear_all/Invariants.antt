-- The first replies were heard.
use Rattle.std.proofs.Common.{◌≡◌, ◌≤◌, false, List, [], ◌++◌}
use Rattle.lean_orders.specs.declared.desk.Command.{Command as AskedOne}
use Rattle.lean_orders.specs.declared.desk.Reply.{Reply as Answer}
use Rattle.backtest_engine.specs.Meaning.{Meaning}
use Rattle.backtest_engine.specs.Turns.{Turn}
use Rattle.backtest_engine.specs.Phased.{GoesOn}
use Rattle.backtest_engine.proofs.phases.hear_all.Given as goal

abbrev pub invariant-replies : goal.invariant-replies
invariant-replies g l = record {
  known : (more : List Answer) × GoesOn (g.D.Desk.stands l.fn.desk) (g.D.Desk.stands l.desk) [] more
      × (l.lost ≡ false → (m : Meaning g.C.Strategy.Own) (turn : Turn g.C.Strategy.Own) (cs : List AskedOne) (rs : List Answer)
      → g.C.Strategy.plays l.fn.core m turn cs rs → g.C.Strategy.plays l.core m turn cs (rs ++ more));
  fed : g.D.Desk.starved l.desk ≡ false;
  submitted : g.D.Desk.submitted l.desk ≡ g.D.Desk.submitted l.fn.desk;
  ordered : g.D.Desk.orders l.desk ≡ g.D.Desk.orders l.fn.desk;
  left : g.C.Strategy.left l.core ≤ g.C.Strategy.left l.fn.core;
  orders : g.C.Strategy.orders l.core ≤ g.C.Strategy.orders l.fn.core;
}

abbrev pub decreases-replies : goal.decreases-replies
decreases-replies g l = g.D.Desk.room l.desk
