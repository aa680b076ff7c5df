-- What an algorithm stands for between two moments, and within one.
use Rattle.std.specs.Prelude.{◌≡◌, ◌⊎◌, ℕ, ◌+◌, ◌≤◌, pos, true, List, [], ◌++◌, length, map, filter_map}
use Rattle.std.specs.Arc.{arc_value}
use Rattle.std.specs.List.{AllByRecursion as Each}
use Rattle.lean_fixed.specs.Ranges.{IsPrintedMoment}
use Rattle.lean_fixed.specs.declared.resolution.Resolution.{Resolution}
use Rattle.lean_items.specs.declared.feed_key.FeedKey.{FeedKey}
use Rattle.lean_items.specs.declared.feed_key.FeedKind.TheVariants.{Coarse, Equity}
use Rattle.lean_orders.specs.declared.desk.Command.{Command}
use Rattle.lean_orders.specs.declared.desk.Reply.{Reply}
use Rattle.clock_book.specs.Fitting.{IsFitting, most_orders}
use Rattle.clock_book.specs.Handled.{replies}
use Rattle.clock_book.specs.InRange.{submitted, moment_of}
use Rattle.clock_book.specs.Seen.{seen_of}
use Rattle.report_stats.specs.Stands.{StandsFor as StatsStand}
use Rattle.clock_run.specs.Lines.{Line}
use Rattle.clock_run.specs.Moments.{equity_told}
use Rattle.clock_run.specs.Orderly.{NumbersRise}
use Rattle.clock_run.specs.States.{Setup, Subscription, symbol_of, coarse_keys}
use Rattle.backtest_core.specs.declared.standing.Core.{Core}
use Rattle.backtest_core.specs.Standing.{Standing}
use Rattle.backtest_core.specs.Inside.{Inside, begins}
use Rattle.backtest_core.specs.Whole.{given_all, heard_all}
use Rattle.backtest_core.specs.Core.{StandsFor, StandsIn, requests_of}
use Rattle.backtest_core.specs.Text.{lines_bytes}
use Rattle.backtest_engine.specs.declared.algorithm.Algorithm.{Algorithm}
use Rattle.backtest_engine.specs.declared.phase.Phase.{Phase}
use Rattle.backtest_engine.specs.Algorithms.{Own, plan_of, core_phase_of, unphased, active_of, begun, rest_of, meaning_of}
use Rattle.backtest_engine.specs.Meaning.{State, Meaning}
use Rattle.backtest_engine.specs.Ranged.{Ranged}
use Rattle.backtest_engine.specs.Turns.{Turn}

-- a security waits under a key of its symbol, and the key of the coarse feed is none of a security
abbrev pub IsKeyed : Subscription → Type 0
IsKeyed security = (resolution : Resolution) × (security.key.kind ≡ Equity (symbol_of security) resolution)

abbrev pub IsCoarse : FeedKey → Type 0
IsCoarse key = key.kind ≡ Coarse

-- Between two moments: the core stands for a standing in which some securities wait, and with their numbers it is the own state.
-- Before them the coarse feed may wait, of which the core knows nothing.
pub record Between (a : Algorithm) (m : Meaning Own) (s : State Own) (keys : List FeedKey) : Type 0 where
  pub setup : Setup
  pub means : m ≡ meaning_of setup
  pub standing : Standing
  pub lines : List Line
  pub core : StandsFor a.core standing lines
  pub its : standing.setup ≡ setup
  pub hours : arc_value a.hours ≡ setup.hours
  pub stats : StatsStand a.stats setup.plan.cash.0 s.own.equities
  pub front : List FeedKey
  pub coarse : Each IsCoarse front
  pub waits : keys ≡ front ++ map (λ security. security.key) standing.waiting
  pub keyed : Each IsKeyed standing.waiting
  pub from : ℕ
  pub count : from + length standing.waiting ≡ s.own.feeds
  pub is : s.own.inside ≡ rest_of from standing

-- nothing was asked of a phase yet, and nothing heard
pub record Waits (core : Core) (p : Phase) (own : Own) (cs : List Command) (rs : List Reply) : Type 0 where
  pub none : cs ≡ []
  pub silent : rs ≡ []
  pub inside : Inside
  pub stands : StandsIn core inside
  pub is : unphased inside ≡ own.inside
  pub before : begins (core_phase_of p) inside.phase ≡ true

-- behind some commands of a phase, and some replies
abbrev pub behind_all : Phase → Own → List Command → List Reply → Inside
behind_all p own cs rs = heard_all rs (given_all cs (begun p own))

pub record Plays (a : Algorithm) (turn : Turn Own) (cs : List Command) (rs : List Reply) : Type 0 where
  pub core : Waits a.core turn.phase turn.state.own cs rs ⊎ StandsIn a.core (behind_all turn.phase turn.state.own cs rs)
  pub split : (begun turn.phase turn.state.own).left ≡ cs ++ (given_all cs (begun turn.phase turn.state.own)).left
  pub stats : StatsStand a.stats (plan_of turn.state.own).cash.0 (turn.state.own.equities ++ filter_map equity_told rs)

-- Within a moment: of a phase some commands were given and some replies heard. What the core is then is known where these are
-- the first replies of the book to these commands.
pub record Within (a : Algorithm) (m : Meaning Own) (turn : Turn Own) (cs : List Command) (rs : List Reply) : Type 0 where
  pub setup : Setup
  pub means : m ≡ meaning_of setup
  pub its : turn.state.own.inside.standing.setup ≡ setup
  pub hours : arc_value a.hours ≡ setup.hours
  pub at : turn.state.own.inside.at ≡ turn.at
  pub clean : unphased turn.state.own.inside ≡ turn.state.own.inside
  pub printed : IsPrintedMoment (pos turn.at)
  pub now : a.core.commands.at.0 ≡ pos turn.at
  pub text : turn.text ≡ lines_bytes turn.state.own.inside.lines
  pub active : active_of turn.state.own ≡ active_of turn.began
  pub feeds : turn.state.own.feeds ≡ turn.began.feeds
  pub numbers : NumbersRise (length (coarse_keys (plan_of turn.state.own))) turn.state.own.feeds
      (map (λ f. f.security) turn.state.own.inside.standing.followed)
  pub seen : turn.state.own.inside.standing.seen ≡ seen_of turn.state.book
  pub ranged : Ranged turn.state.book
  pub fitting : Each (λ c. IsFitting c) cs
  pub time : Each (λ c. moment_of c ≡ pos turn.at) cs
  pub room : length turn.state.book.orders + submitted cs + requests_of a.core ≤ most_orders
  pub plays : (rest : List Reply) → replies turn.state.book cs ≡ rs ++ rest → Plays a turn cs rs
