-- What an algorithm means as a strategy: what a core stands for, how many feeds were ever added, and the equities of the close
-- lines.
use Rattle.std.specs.Prelude.{ℕ, ◌+◌, ℤ, false, if◌then◌else◌, List, [], ◌++◌, length, map, filter_map, Some, None}
use Rattle.lean_fixed.specs.Moments.{first_moment}
use Rattle.exchange_hours.specs.Grid.{is_closing}
use Rattle.lean_orders.specs.declared.desk.Reply.{Reply}
use Rattle.lean_items.specs.declared.arrival.Arrival.{Arrival}
use Rattle.lean_items.specs.declared.feed_key.FeedKey.{FeedKey}
use Rattle.rule_strategy.specs.declared.plan.Plan.{Plan}
use Rattle.clock_steps.specs.Runs.{Ran}
use Rattle.clock_run.specs.Known.{Known}
use Rattle.clock_run.specs.Lines.{removed}
use Rattle.clock_run.specs.Moments.{told, equity_told}
use Rattle.clock_run.specs.States as clock
use Rattle.clock_run.specs.States.{Setup, symbol_of, listed, coarse_keys, opening}
use Rattle.clock_run.specs.Summary.{summary}
use Rattle.backtest_core.specs.declared.phase.Phase as core
use Rattle.backtest_core.specs.declared.phase.Phase.TheVariants as core_phase
use Rattle.backtest_core.specs.Standing.{Followed, Standing, standing_of, named_all, feed_of}
use Rattle.backtest_core.specs.Inside.{Inside, inside, arrived, has_too_many, entered, leaving, closed}
use Rattle.backtest_core.specs.Whole.{given_all, heard_all}
use Rattle.backtest_core.specs.Text.{lines_bytes}
use Rattle.backtest_engine.specs.declared.limits.Limit.{Limit}
use Rattle.backtest_engine.specs.declared.limits.Limit.TheVariants.{Securities, Requests}
use Rattle.backtest_engine.specs.declared.phase.Phase.{Phase}
use Rattle.backtest_engine.specs.declared.phase.Phase.TheVariants.{Prices, Rules, Close}
use Rattle.backtest_engine.specs.Meaning.{Subscription, Asked, Told, State, Meaning}
use Rattle.backtest_engine.specs.Turns.{numbered}

-- What an algorithm keeps for itself: what its core stands for, in which no phase has begun and no command is left; how many
-- feeds were ever added; and the equities of the close lines.
pub record Own : Type 0 where
  pub inside : Inside
  pub feeds : ℕ
  pub equities : List ℤ

abbrev pub plan_of : Own → Plan
plan_of own = own.inside.standing.setup.plan

-- the phases of a core
abbrev pub core_phase_of : Phase → core.Phase
core_phase_of Prices = core_phase.Prices
core_phase_of Rules = core_phase.Rules
core_phase_of Close = core_phase.Close

-- no phase has begun
abbrev pub unphased : Inside → Inside
unphased i = record i { phase = None; left = []; over = false }

-- the coarse feed, where there is one, and then the securities
abbrev pub subscribed : Followed → Subscription
subscribed f = record { feed = feed_of f; key = f.security.key }

abbrev pub active_of : Own → List Subscription
active_of own = numbered 0 (coarse_keys (plan_of own)) ++ map subscribed own.inside.standing.followed

abbrev pub arrive : ℕ → List Arrival → Own → Ran Own ℕ Limit
arrive t slice own =
    let i = arrived t slice own.inside.standing in
    record {
      lines = lines_bytes i.lines;
      state = record own { inside = i };
      stop = if has_too_many own.inside.standing slice then Some Securities else None;
    }

-- a phase begins
abbrev pub begun : Phase → Own → Inside
begun p own = entered (core_phase_of p) own.inside

abbrev pub ask : Phase → State Own → Asked
ask p s = record { commands = (begun p s.own).left; stop = if (begun p s.own).over then Some Requests else None }

-- all its commands are given, and then the replies are heard
abbrev pub played : Phase → Own → List Reply → Inside
played p own heard = heard_all heard (given_all (begun p own).left (begun p own))

abbrev pub hear : Phase → State Own → List Reply → Told Own
hear p s heard = record {
  own = record s.own { inside = unphased (played p s.own heard); equities = s.own.equities ++ filter_map equity_told heard };
  text = lines_bytes (filter_map (told s.own.inside.at) heard);
}

-- behind a moment: what was added has its numbers
abbrev pub rest_of : ℕ → Standing → Inside
rest_of feeds v = inside 0 [] (named_all feeds v.waiting v)

abbrev pub close : State Own → Told Own
close s =
    let v = closed s.own.inside in
    record {
      own = record s.own { inside = rest_of s.own.feeds v; feeds = s.own.feeds + length v.waiting };
      text = lines_bytes (map (λ f. removed s.own.inside.at (symbol_of f.security)) (leaving s.own.inside));
    }

abbrev pub summary_of : State Own → List ℕ
summary_of s = summary (plan_of s.own).cash.0 s.book s.own.equities

unfoldable pub meaning_of : Setup → Meaning Own
meaning_of setup = record {
  active = active_of;
  added = λ own. own.feeds;
  is_close = λ t. is_closing setup.hours t;
  arrive = λ t slice own. arrive t slice own;
  ask = λ p t slice s. ask p s;
  hear = λ p t slice s heard. hear p s heard;
  close = λ t slice s. close s;
  summary = summary_of;
}

-- ---- the beginning

-- nothing is known yet
abbrev pub nothing_known : Known
nothing_known = record { bars = λ key. []; blocked = λ key. None; coarse = [] }

-- what an algorithm is between two moments: the state of the definition, and what is known by then
abbrev pub own_of : Setup → clock.State → Known → Own
own_of setup s known =
    record { inside = inside 0 [] (standing_of setup s known); feeds = s.feeds; equities = s.equities }

abbrev pub state_of : Setup → clock.State → Known → State Own
state_of setup s known = record { own = own_of setup s known; book = s.book }

abbrev pub opening_state : Setup → State Own
opening_state setup = state_of setup (opening setup) nothing_known

-- the keys of the feeds that are added before the first moment
abbrev pub opening_keys : Plan → List FeedKey
opening_keys plan = coarse_keys plan ++ map (λ security. (listed (first_moment plan.window) 0 security).key) plan.securities
