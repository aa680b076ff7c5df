-- What one rule asks for one security: commands to submit, update and cancel orders.
use Rattle.std.specs.Prelude.{ℕ, ◌^◌, nat_le, if◌then◌else◌, ℤ, pos, int_div, unsigned_abs, List, [], ◌∷◌, map, filter, Option, Some, None, option_map, option_and_then}
use Rattle.lean_fixed.specs.declared.money.Price.{Price}
use Rattle.lean_fixed.specs.declared.time.Moment.{Moment}
use Rattle.lean_orders.specs.declared.desk.Command.{Command}
use Rattle.lean_orders.specs.declared.desk.Command.TheVariants.{Submit, Update, Cancel}
use Rattle.lean_orders.specs.declared.order.Kind.{Kind}
use Rattle.lean_orders.specs.declared.order.Resting.{Resting}
use Rattle.rule_lang.specs.declared.view.View.{View}
use Rattle.rule_lang.specs.Tree.{Tree}
use Rattle.rule_lang.specs.Values.{number_in, truth_in}
use Rattle.rule_strategy.specs.declared.asking.RuleView.{RuleView}
use Rattle.rule_strategy.specs.declared.rule.Action.{Action}
use Rattle.rule_strategy.specs.declared.rule.Action.TheVariants as act
use Rattle.rule_strategy.specs.declared.rule.Rule.{Rule}
use Rattle.rule_strategy.specs.RuleTexts.{rests_at_price}

-- a quantity or a price is asked for up to here, either way
abbrev pub most_asked : ℕ
most_asked = 10 ^ 18

abbrev pub if_asked : ℤ → Option ℤ
if_asked n = if nat_le (unsigned_abs n) most_asked then Some n else None

-- the number that an expression is in a view, in units of 1/10000
unfoldable pub asked : View → Tree → Option ℤ
asked view tree = option_and_then if_asked (number_in view tree)

-- a price that an order has, if it has one
abbrev pub price_of : ℤ → Price
price_of units = record { 0 = units }

abbrev pub asked_if : View → Option Tree → Option (Option Price)
asked_if view None = Some None
asked_if view (Some tree) = option_map (λ n. Some (price_of n)) (asked view tree)

-- one order of whole shares, where each of its numbers has a value
abbrev pub submits : Moment → List ℕ → Kind → Option ℤ → Option (Option Price) → Option (Option Price) → List Command
submits at symbol kind (Some quantity) (Some price) (Some limit) =
    Submit at
    (record { symbol = symbol; kind = kind; quantity = record { 0 = int_div quantity (pos 10000) }; price = price; limit = limit })
    ∷ []
submits at symbol kind _ _ _ = []

-- the new price of each live order that rests at one
abbrev pub updates : Moment → Option ℤ → List Resting → List Command
updates at None live = []
updates at (Some price) live =
    map (λ order. Update at order.id (price_of price)) (filter (λ order. rests_at_price order.kind) live)

abbrev pub cancels : Moment → List Resting → List Command
cancels at live = map (λ order. Cancel at order.id) live

abbrev pub asked_by : Action → List ℕ → RuleView → List Resting → List Command
asked_by (act.Order kind quantity price limit) symbol view live =
    submits view.when.at symbol kind (asked view.quantity quantity) (asked_if view.price price) (asked_if view.limit limit)
asked_by (act.Update price) symbol view live = updates view.when.at (asked view.price price) live
asked_by act.Cancel symbol view live = cancels view.when.at live

-- The commands of a rule for a security: none where what it waits for is not so. Of a live order its id, its symbol and its
-- kind alone are read; the rule's own symbol is not, as who calls picks the securities that a rule is for.
unfoldable pub requests_of : Rule → List ℕ → RuleView → List Resting → List Command
requests_of rule symbol view live =
    if truth_in view.when rule.when then asked_by rule.action symbol view live else []
