-- Within a moment, a step on.
use Rattle.std.proofs.Common.{◌≡◌, ◌+◌, ◌≤◌, List, ◌++◌, ap, ◌∙◌}
use Rattle.std.specs.Prelude.{pos, length}
use Rattle.std.specs.List.{AllByRecursion as Each}
use Rattle.lean_fixed.specs.declared.time.Moment.{Moment}
use Rattle.lean_orders.specs.declared.desk.Command.{Command}
use Rattle.lean_orders.specs.declared.desk.Reply.{Reply}
use Rattle.clock_book.specs.Fitting.{IsFitting, most_orders}
use Rattle.clock_book.specs.Handled.{replies}
use Rattle.clock_book.specs.InRange.{moment_of, submitted}
use Rattle.report_stats.specs.declared.stats.Stats.{Stats}
use Rattle.backtest_core.specs.declared.standing.Core.{Core}
use Rattle.backtest_core.specs.Core.{GivesNoMore, requests_of}
use Rattle.backtest_engine.specs.declared.algorithm.Algorithm.{Algorithm}
use Rattle.backtest_engine.specs.Algorithms.{Own}
use Rattle.backtest_engine.specs.Meaning.{Meaning}
use Rattle.backtest_engine.specs.Playing.{Within, Plays}
use Rattle.backtest_engine.specs.Turns.{Turn}

-- what was given and heard, and what the core and the sums are, may change, and all else stays
pub within-next : (m : Meaning Own) (a : Algorithm) (core : Core) (stats : Stats) (turn : Turn Own) (cs ds : List Command) (rs more : List Reply)
    → Within a m turn cs rs → GivesNoMore a.core core
    → Each (λ c. IsFitting c) ds → Each (λ c. moment_of c ≡ pos turn.at) ds
    → length turn.state.book.orders + submitted ds + requests_of core ≤ most_orders
    → ((rest : List Reply) → replies turn.state.book ds ≡ more ++ rest → Plays (record a { core = core; stats = stats }) turn ds more)
    → Within (record a { core = core; stats = stats }) m turn ds more
within-next m a core stats turn cs ds rs more w numbers fitting time room plays = record {
  setup = w.setup;
  means = w.means;
  its = w.its;
  hours = w.hours;
  at = w.at;
  clean = w.clean;
  printed = w.printed;
  now = ap (λ (x : Moment). x.0) numbers.at ∙ w.now;
  text = w.text;
  active = w.active;
  feeds = w.feeds;
  numbers = w.numbers;
  seen = w.seen;
  ranged = w.ranged;
  fitting = fitting;
  time = time;
  room = room;
  plays = plays;
}
