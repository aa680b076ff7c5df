-- What the rules of a plan ask for at a moment: rule by rule, and for each rule by fresh security in the order of their numbers.
use Rattle.std.specs.Prelude.{ℕ, ℤ, pos, Bool, true, if◌then◌else◌, List, [], filter, flat_map, length, Option, Some, None, unwrap_or}
use Rattle.lean_items.specs.declared.bar.Bar.{Bar}
use Rattle.exchange_hours.specs.Sessions.{moment}
use Rattle.lean_orders.specs.declared.desk.Command.{Command}
use Rattle.lean_orders.specs.declared.order.Resting.{Resting}
use Rattle.portfolio.specs.Symbols.{same_symbol}
use Rattle.portfolio.specs.Sums as sums
use Rattle.rule_lang.specs.declared.view.View.{View}
use Rattle.rule_lang.specs.Tree.{Tree}
use Rattle.rule_lang.specs.Closes.{values_over}
use Rattle.clock_book.specs.Seen.{Seen}
use Rattle.rule_strategy.specs.declared.asking.RuleView.{RuleView}
use Rattle.rule_strategy.specs.declared.rule.Rule.{Rule}
use Rattle.rule_strategy.specs.declared.rule.Action.{Action}
use Rattle.rule_strategy.specs.declared.rule.Action.TheVariants.{Order, Update, Cancel}
use Rattle.rule_strategy.specs.Asked.{requests_of}
use Rattle.clock_run.specs.Histories.{History, fresh_bar, closes}

-- what is seen of a symbol and of the account
abbrev pub price_seen : Seen → List ℕ → Option ℤ
price_seen seen symbol = sums.last_mark symbol seen.marks

abbrev pub position_seen : Seen → List ℕ → ℤ
position_seen seen symbol = sums.position symbol seen.fills

abbrev pub cash_seen : Seen → ℤ
cash_seen seen = sums.cash seen.start seen.fills

abbrev pub equity_seen : Seen → ℤ
equity_seen seen = sums.equity seen.start seen.fills seen.marks

abbrev pub orders_seen : Seen → List ℕ → List Resting
orders_seen seen symbol = filter (λ order. same_symbol symbol order.symbol) seen.live

-- what an expression sees of a security that was given a bar
abbrev pub view_of : Seen → ℕ → History → Bar → List (Option ℤ) → View
view_of seen t h bar windows = record {
  bar = bar;
  at = moment t;
  price = record { 0 = unwrap_or (price_seen seen h.symbol) (pos 0) };
  position = record { 0 = position_seen seen h.symbol };
  cash = record { 0 = cash_seen seen };
  equity = record { 0 = equity_seen seen };
  orders = length (orders_seen seen h.symbol);
  windows = windows;
}

-- the windows of an expression, over all closes of a security
abbrev pub values_if : History → Option Tree → List (Option ℤ)
values_if h None = []
values_if h (Some tree) = values_over (closes h) tree

-- the expressions of an action
abbrev pub quantity_of : Action → Option Tree
quantity_of (Order kind quantity price limit) = Some quantity
quantity_of (Update price) = None
quantity_of Cancel = None

abbrev pub price_of : Action → Option Tree
price_of (Order kind quantity price limit) = price
price_of (Update price) = Some price
price_of Cancel = None

abbrev pub limit_of : Action → Option Tree
limit_of (Order kind quantity price limit) = limit
limit_of (Update price) = None
limit_of Cancel = None

abbrev pub rule_view : Seen → ℕ → History → Bar → Rule → RuleView
rule_view seen t h bar rule = record {
  when = view_of seen t h bar (values_over (closes h) rule.when);
  quantity = view_of seen t h bar (values_if h (quantity_of rule.action));
  price = view_of seen t h bar (values_if h (price_of rule.action));
  limit = view_of seen t h bar (values_if h (limit_of rule.action));
}

-- a rule that names a symbol is for that security alone
abbrev pub is_for : Option (List ℕ) → List ℕ → Bool
is_for None symbol = true
is_for (Some only) symbol = same_symbol only symbol

abbrev pub fresh_requests : Rule → Seen → ℕ → History → Option Bar → List Command
fresh_requests rule seen t h None = []
fresh_requests rule seen t h (Some bar) =
    if is_for rule.symbol h.symbol
    then requests_of rule h.symbol (rule_view seen t h bar rule) (orders_seen seen h.symbol)
    else []

abbrev pub security_requests : Seen → ℕ → Rule → History → List Command
security_requests seen t rule h = fresh_requests rule seen t h (fresh_bar t h)

unfoldable pub requests : List Rule → Seen → ℕ → List History → List Command
requests rules seen t histories = flat_map (λ rule. flat_map (security_requests seen t rule) histories) rules
