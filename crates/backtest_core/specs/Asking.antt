-- How the expressions of rules are read: what they see of a security and the account, and where their windows stand among those
-- of all rules.
use Rattle.std.specs.Prelude.{◌≡◌, ℕ, ℤ, pos, List, [], length, map, Option, Some, None, unwrap_or, slice_get, option_and_then}
use Rattle.exchange_hours.specs.Sessions.{moment}
use Rattle.lean_fixed.specs.declared.money.Price.{Price}
use Rattle.lean_items.specs.declared.bar.Bar.{Bar}
use Rattle.bar_windows.specs.declared.spec.WindowSpec.{WindowSpec}
use Rattle.rule_lang.specs.declared.view.View.{View}
use Rattle.rule_lang.specs.Tree.{Tree, windows_of}
use Rattle.rule_lang.specs.Closes.{value_over}
use Rattle.rule_strategy.specs.declared.rule.Rule.{Rule}
use Rattle.clock_book.specs.Seen.{Seen}
use Rattle.clock_run.specs.Requests.{price_seen, position_seen, cash_seen, equity_seen, orders_seen, quantity_of, price_of, limit_of}
use Rattle.backtest_core.specs.declared.facts.Facts.{Facts}
use Rattle.backtest_core.specs.declared.places.RulePlaces.{RulePlaces}
use Rattle.backtest_core.specs.declared.watched.Watched.{Watched}

-- what is seen of a symbol and the account at a moment
abbrev pub facts_of : Seen → ℕ → List ℕ → Bar → Facts
facts_of seen t symbol bar = record {
  bar = bar;
  at = moment t;
  price = record { 0 = unwrap_or (price_seen seen symbol) (pos 0) };
  position = record { 0 = position_seen seen symbol };
  cash = record { 0 = cash_seen seen };
  equity = record { 0 = equity_seen seen };
  orders = length (orders_seen seen symbol);
}

-- the view of these, with the values of some windows
abbrev pub view_with : Facts → List (Option ℤ) → View
view_with facts windows = record {
  bar = facts.bar;
  at = facts.at;
  price = facts.price;
  position = facts.position;
  cash = facts.cash;
  equity = facts.equity;
  orders = facts.orders;
  windows = windows;
}

-- the value of the window at a place, over all closes
abbrev pub value_at : List Price → List WindowSpec → ℕ → Option ℤ
value_at closes specs place = option_and_then (value_over closes) (slice_get specs place)

-- the windows at some places are those that are wanted
abbrev pub Finds : List WindowSpec → List ℕ → List WindowSpec → Type 0
Finds specs places wanted = map (slice_get specs) places ≡ map Some wanted

abbrev pub windows_if : Option Tree → List WindowSpec
windows_if None = []
windows_if (Some tree) = windows_of tree

-- the places of a rule are those of the windows of its expressions
pub record FindsRule (specs : List WindowSpec) (places : RulePlaces) (rule : Rule) : Type 0 where
  pub when : Finds specs places.when.items (windows_of rule.when)
  pub quantity : Finds specs places.quantity.items (windows_if (quantity_of rule.action))
  pub price : Finds specs places.price.items (windows_if (price_of rule.action))
  pub limit : Finds specs places.limit.items (windows_if (limit_of rule.action))

-- a security has these windows
abbrev pub HasWindows : List WindowSpec → Watched → Type 0
HasWindows specs w = w.following.windows.specs ≡ specs
