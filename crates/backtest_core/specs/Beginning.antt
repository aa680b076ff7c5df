-- A moment that begins: what stood before it, and nothing of it yet.
use Rattle.std.specs.Prelude.{◌≡◌, ℕ, false, List, [], map, None}
use Rattle.std.specs.List.{AllZip}
use Rattle.lean_items.specs.declared.arrival.Arrival.{Arrival}
use Rattle.exchange_hours.specs.Sessions.{moment}
use Rattle.backtest_core.specs.declared.standing.Core.{Core}
use Rattle.backtest_core.specs.Standing.{Standing}
use Rattle.backtest_core.specs.Inside.{Inside, with_bars, inside}
use Rattle.backtest_core.specs.Watching.{Watches}
use Rattle.backtest_core.specs.Giving.{left_in}
use Rattle.backtest_core.specs.Core.{Keeps}

pub record Begins (t : ℕ) (core : Core) (v : Standing) : Type 0 where
  pub keeps : Keeps core v
  pub watched : AllZip Watches core.watched.items v.followed
  pub at : core.commands.at ≡ moment t
  pub phase : core.commands.phase ≡ None
  pub left : left_in core.commands ≡ []
  pub over : core.commands.over ≡ false
  pub news : core.news.items ≡ []
  pub text : core.text.items ≡ []

-- each security has heard its bar
abbrev pub with_slice : List Arrival → Standing → Standing
with_slice slice v = record v { followed = map (with_bars slice) v.followed }

abbrev pub heard_at : ℕ → List Arrival → Standing → Inside
heard_at t slice v = inside t [] (with_slice slice v)
