-- The value of an expression over all closes of a security, each window by its definition.
use Rattle.std.specs.Prelude.{Bool, false, not as is_not, ◌&&◌, ◌||◌, ℤ, neg_ℤ, List, map, Option, Some, None, option_and_then}
use Rattle.lean_fixed.specs.declared.money.Price.{Price}
use Rattle.bar_windows.specs.Window.{window as window_over}
use Rattle.bar_windows.specs.declared.spec.WindowSpec.{WindowSpec}
use Rattle.rule_lang.specs.declared.view.View.{View}
use Rattle.rule_lang.specs.Tree.{Amount, number, named, window, minus, arithmetic, Condition, not, and, or, compare, Tree, condition, amount, windows_of}
use Rattle.rule_lang.specs.Values.{value_of_name, within, computed, both, compared}

abbrev pub value_over : List Price → WindowSpec → Option ℤ
value_over closes spec = window_over spec.func spec.length closes

-- the values of the windows of an expression, as they stand in its text
abbrev pub values_over : List Price → Tree → List (Option ℤ)
values_over closes tree = map (value_over closes) (windows_of tree)

unfoldable pub amount_over : View → List Price → Amount → Option ℤ
amount_over view closes (number n) = Some n
amount_over view closes (named name) = Some (value_of_name view name)
amount_over view closes (window spec) = value_over closes spec
amount_over view closes (minus x) = option_and_then (λ n. within (neg_ℤ n)) (amount_over view closes x)
amount_over view closes (arithmetic op x y) =
    both (computed op) (amount_over view closes x) (amount_over view closes y)

unfoldable pub condition_over : View → List Price → Condition → Bool
condition_over view closes (not x) = is_not (condition_over view closes x)
condition_over view closes (and x y) = condition_over view closes x && condition_over view closes y
condition_over view closes (or x y) = condition_over view closes x || condition_over view closes y
condition_over view closes (compare op x y) =
    compared op (amount_over view closes x) (amount_over view closes y)

abbrev pub number_over : View → List Price → Tree → Option ℤ
number_over view closes (condition c) = None
number_over view closes (amount a) = amount_over view closes a

abbrev pub truth_over : View → List Price → Tree → Bool
truth_over view closes (condition c) = condition_over view closes c
truth_over view closes (amount a) = false
