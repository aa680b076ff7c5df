-- How the calls of a core over one moment make the moment of the definition.
use Rattle.std.specs.Prelude.{◌≡◌, ℕ, ◌++◌, List, [], Option, Some, None}
use Rattle.std.specs.List.{AllByRecursion as Each}
use Rattle.lean_items.specs.declared.arrival.Arrival.{Arrival}
use Rattle.lean_items.specs.declared.coarse_row.CoarseRow.{CoarseRow}
use Rattle.rule_strategy.specs.declared.universe.UniversePlan.{UniversePlan}
use Rattle.clock_book.specs.Seen.{AreNumbered}
use Rattle.clock_run.specs.Lines.{Line}
use Rattle.clock_run.specs.Known.{Known}
use Rattle.clock_run.specs.States.{Setup, State, equity_key}
use Rattle.clock_run.specs.Moments.{prices, trading, closing, removals}
use Rattle.backtest_core.specs.declared.phase.Phase.TheVariants.{Prices, Rules, Close}
use Rattle.backtest_core.specs.Inside.{Inside, bars_in, rows_in}
use Rattle.backtest_core.specs.Whole.{through}

-- the coarse rows that arrived are those that are known, where there is a universe
abbrev pub TiesRows : Option UniversePlan → List CoarseRow → List CoarseRow → Type 0
TiesRows None arrived known = Unit {0}
TiesRows (Some universe) arrived known = arrived ≡ known

-- no bar of a security that joins now ends by now
abbrev pub AreNew : Option UniversePlan → ℕ → Known → Type 0
AreNew None t known = Unit {0}
AreNew (Some universe) t known = (symbol : List ℕ) → known.bars (equity_key t symbol universe.resolution universe.fill) ≡ []

-- What arrived at a moment is what is known at it beyond what was known before.
pub record Ties (setup : Setup) (t : ℕ) (before known : Known) (slice : List Arrival) (s : State) : Type 0 where
  pub bars : Each (λ security. known.bars security.key ≡ before.bars security.key ++ bars_in slice security.active.feed.0) s.securities
  pub rows : TiesRows setup.plan.universe (rows_in slice) known.coarse
  pub fresh : AreNew setup.plan.universe t known
  pub numbered : AreNumbered 1 s.book.orders

-- the states behind the parts of a moment that follow the selection
abbrev pub priced : ℕ → Known → State → State
priced t known s = (prices t known s).state

abbrev pub traded_on : Setup → ℕ → Known → State → State
traded_on setup t known s = (trading setup t known (priced t known s)).state

abbrev pub closed_on : Setup → ℕ → Known → State → State
closed_on setup t known s = (closing setup.hours t (traded_on setup t known s)).state

abbrev pub left_behind : Setup → ℕ → Known → State → State
left_behind setup t known s = (removals t (closed_on setup t known s)).state

-- their lines
abbrev pub lines_behind : Setup → ℕ → Known → State → List Line
lines_behind setup t known s =
    (prices t known s).lines
    ++ (trading setup t known (priced t known s)).lines
    ++ (closing setup.hours t (traded_on setup t known s)).lines
    ++ (removals t (closed_on setup t known s)).lines

-- a core behind its three phases
abbrev pub core_behind : Setup → ℕ → Known → State → Inside → Inside
core_behind setup t known s i =
    through Close (traded_on setup t known s).book (through Rules (priced t known s).book (through Prices s.book i))
