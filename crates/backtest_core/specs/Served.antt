-- What a book makes of the commands of a core.
use Rattle.std.specs.Prelude.{◌≡◌, ℕ, List, ◌++◌}
use Rattle.std.specs.List.{filter_map}
use Rattle.lean_orders.specs.declared.desk.Command.{Command}
use Rattle.clock_book.specs.Handled.{after, replies}
use Rattle.clock_run.specs.Known.{Known}
use Rattle.clock_run.specs.States.{Setup, State}
use Rattle.clock_run.specs.Moments.{equity_told}
use Rattle.backtest_core.specs.declared.phase.Phase.TheVariants.{Prices, Rules, Close}
use Rattle.backtest_core.specs.Inside.{Inside, entered}
use Rattle.backtest_core.specs.Whole.{through}
use Rattle.backtest_core.specs.Made.{priced, traded_on, closed_on}

-- the book and the equities of a state behind some commands are those of another
pub record IsServed (s : State) (commands : List Command) (next : State) : Type 0 where
  pub book : after s.book commands ≡ next.book
  pub equities : s.equities ++ filter_map equity_told (replies s.book commands) ≡ next.equities

-- What a core gives out in its three phases makes the book and the equities that the parts of the moment leave.
pub record Serves (setup : Setup) (t : ℕ) (known : Known) (s : State) (i : Inside) : Type 0 where
  pub prices : IsServed s (entered Prices i).left (priced t known s)
  pub rules : IsServed (priced t known s) (entered Rules (through Prices s.book i)).left (traded_on setup t known s)
  pub close : IsServed (traded_on setup t known s)
      (entered Close (through Rules (priced t known s).book (through Prices s.book i))).left (closed_on setup t known s)
