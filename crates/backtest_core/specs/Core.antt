-- What a core stands for, by what it keeps.
use Rattle.std.specs.Prelude.{◌≡◌, ℕ, ◌≤◌, List}
use Rattle.std.specs.Arc.{arc_value}
use Rattle.std.specs.List.{AllZip, AllByRecursion as Each}
use Rattle.exchange_hours.specs.Sessions.{moment}
use Rattle.clock_run.specs.Lines.{Line}
use Rattle.backtest_core.specs.declared.standing.Core.{Core}
use Rattle.backtest_core.specs.Standing.{Standing}
use Rattle.backtest_core.specs.Inside.{Inside}
use Rattle.backtest_core.specs.Watching.{Watches, WatchesAt}
use Rattle.backtest_core.specs.Mirror.{Sees}
use Rattle.backtest_core.specs.Asking.{FindsRule, HasWindows}
use Rattle.backtest_core.specs.Waiting.{subscriptions_in}
use Rattle.backtest_core.specs.Giving.{left_in, others_in, requests_in}
use Rattle.backtest_core.specs.Text.{lines_bytes}

-- the plan and the hours, the windows of its rules, the securities that wait, what was seen, and the requests that were given
pub record Keeps (core : Core) (v : Standing) : Type 0 where
  pub plan : core.plan ≡ v.setup.plan
  pub hours : arc_value core.hours ≡ v.setup.hours
  pub table : AllZip (FindsRule core.table.specs.items) core.table.rules.items core.plan.rules
  pub windows : Each (HasWindows core.table.specs.items) core.watched.items
  pub waiting : subscriptions_in core.waiting.items ≡ v.waiting
  pub seen : Sees core.mirror v.seen
  pub requests : core.commands.requests ≡ v.requests

-- between two moments, with the lines of the one before
pub record StandsFor (core : Core) (v : Standing) (lines : List Line) : Type 0 where
  pub keeps : Keeps core v
  pub watched : AllZip Watches core.watched.items v.followed
  pub text : core.text.items ≡ lines_bytes lines

-- within a moment
pub record StandsIn (core : Core) (i : Inside) : Type 0 where
  pub keeps : Keeps core i.standing
  pub watched : AllZip (WatchesAt i.at) core.watched.items i.standing.followed
  pub at : core.commands.at ≡ moment i.at
  pub phase : core.commands.phase ≡ i.phase
  pub left : left_in core.commands ≡ i.left
  pub over : core.commands.over ≡ i.over
  pub news : core.news.items ≡ i.news
  pub text : core.text.items ≡ lines_bytes i.lines

-- how many commands beside requests may still come at the moment, and how many requests in all
abbrev pub others_of : Core → ℕ
others_of core = others_in core.commands

abbrev pub requests_of : Core → ℕ
requests_of core = requests_in core.commands

-- the moment stays, and no more commands may come than before
pub record GivesNoMore (old new : Core) : Type 0 where
  pub at : new.commands.at ≡ old.commands.at
  pub others : others_of new ≤ others_of old
  pub requests : requests_of new ≤ requests_of old
