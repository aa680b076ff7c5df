-- The first commands of a phase were submitted.
use Rattle.std.proofs.Common.{◌≡◌, ◌+◌, ◌≤◌, false, List, []}
use Rattle.lean_orders.specs.declared.desk.Command.{Command as AskedOne}
use Rattle.backtest_engine.specs.Meaning.{Meaning}
use Rattle.backtest_engine.specs.Turns.{Turn}
use Rattle.backtest_engine.specs.Phased.{GoesOn}
use Rattle.backtest_engine.proofs.phases.ask_all.Given as goal

abbrev pub invariant-commands : goal.invariant-commands
invariant-commands g l = record {
  known : (ds : List AskedOne) × GoesOn (g.D.Desk.stands l.fn.desk) (g.D.Desk.stands l.desk) ds []
      × ((m : Meaning g.C.Strategy.Own) (turn : Turn g.C.Strategy.Own) → g.C.Strategy.plays l.fn.core m turn [] [] → turn.phase ≡ l.phase
      → g.C.Strategy.plays l.core m turn ds []);
  fed : g.D.Desk.starved l.desk ≡ false;
  few : g.D.Desk.submitted l.desk + g.C.Strategy.left l.core ≤ g.D.Desk.submitted l.fn.desk + g.C.Strategy.left l.fn.core;
  orders : g.D.Desk.orders l.desk + g.C.Strategy.orders l.core ≤ g.D.Desk.orders l.fn.desk + g.C.Strategy.orders l.fn.core;
}

abbrev pub decreases-commands : goal.decreases-commands
decreases-commands g l = g.C.Strategy.left l.core
