-- The value of an expression: a number in units of 1/10000, a truth, or none.
use Rattle.std.specs.Prelude.{ℕ, ◌^◌, Bool, false, not as is_not, ◌&&◌, ◌||◌, if◌then◌else◌, ℤ, pos, neg_ℤ, ◌+ℤ◌, ◌-ℤ◌, ◌*ℤ◌, int_lt, int_le, int_div, List, [], ◌∷◌, length, drop, Option, Some, None, option_map, option_and_then}
use Rattle.std.specs.Int.{int_rem_euclid}
use Rattle.std.specs.Ordering.{int_eq}
use Rattle.lean_fixed.specs.Moments.{minutes_per_day}
use Rattle.rule_lang.specs.declared.token.Name.{Name}
use Rattle.rule_lang.specs.declared.token.Name.TheVariants.{Open, High, Low, Close, Volume, Price, Position, Cash, Equity, Orders, Time}
use Rattle.rule_lang.specs.declared.token.Arithmetic.{Arithmetic}
use Rattle.rule_lang.specs.declared.token.Arithmetic.TheVariants.{Plus, Minus, Times, Over}
use Rattle.rule_lang.specs.declared.token.Comparison.{Comparison}
use Rattle.rule_lang.specs.declared.token.Comparison.TheVariants.{Less, AtMost, Greater, AtLeast, Equal, Unequal}
use Rattle.rule_lang.specs.declared.view.View.{View}
use Rattle.rule_lang.specs.Tree.{Amount, number, named, window, minus, arithmetic, windows_in, Condition, not, and, or, compare, windows_under, Tree, condition, amount}

-- an operation has no value beyond this, either way
abbrev pub reach : ℕ
reach = 10 ^ 38

abbrev pub within : ℤ → Option ℤ
within n = if int_le (neg_ℤ (pos reach)) n && int_le n (pos reach) then Some n else None

-- n / d, cut toward zero: no value where d is 0, or where n is beyond the reach, which the result is then within
abbrev pub quotient : ℤ → ℤ → Option ℤ
quotient n d = if int_eq d (pos 0) then None else option_map (λ m. int_div m d) (within n)

-- an operation of arithmetic on two numbers
abbrev pub computed : Arithmetic → ℤ → ℤ → Option ℤ
computed Plus a b = within (a +ℤ b)
computed Minus a b = within (a -ℤ b)
computed Times a b = quotient (a *ℤ b) (pos 10000)
computed Over a b = quotient (a *ℤ pos 10000) b

-- a comparison of two numbers
abbrev pub holds : Comparison → ℤ → ℤ → Bool
holds Less a b = int_lt a b
holds AtMost a b = int_le a b
holds Greater a b = int_lt b a
holds AtLeast a b = int_le b a
holds Equal a b = int_eq a b
holds Unequal a b = is_not (int_eq a b)

-- a count as a number
abbrev pub counted : ℤ → ℤ
counted n = n *ℤ pos 10000

-- The numbers that have a name. The time is the minutes since 00:00 of the moment's day, before 1970 too.
abbrev pub value_of_name : View → Name → ℤ
value_of_name view Open = view.bar.opening.0
value_of_name view High = view.bar.high.0
value_of_name view Low = view.bar.low.0
value_of_name view Close = view.bar.closing.0
value_of_name view Volume = counted view.bar.volume.0
value_of_name view Price = view.price.0
value_of_name view Position = counted view.position.0
value_of_name view Cash = view.cash.0
value_of_name view Equity = view.equity.0
value_of_name view Orders = counted (pos view.orders)
value_of_name view Time = counted (int_rem_euclid view.at.0 (pos minutes_per_day))

-- the first of the values of windows
abbrev pub first_value : List (Option ℤ) → Option ℤ
first_value [] = None
first_value (value ∷ values) = value

-- an operation has no value where an operand has none, and there a comparison is false
abbrev pub both : (ℤ → ℤ → Option ℤ) → Option ℤ → Option ℤ → Option ℤ
both f (Some a) (Some b) = f a b
both f _ _ = None

abbrev pub compared : Comparison → Option ℤ → Option ℤ → Bool
compared op (Some a) (Some b) = holds op a b
compared op _ _ = false

-- the number that an amount is, where these are the values of its windows and of those behind it
unfoldable pub number_of : View → List (Option ℤ) → Amount → Option ℤ
number_of view values (number n) = Some n
number_of view values (named name) = Some (value_of_name view name)
number_of view values (window spec) = first_value values
number_of view values (minus x) = option_and_then (λ n. within (neg_ℤ n)) (number_of view values x)
number_of view values (arithmetic op x y) =
    both (computed op) (number_of view values x) (number_of view (drop (length (windows_in x)) values) y)

-- the truth of a condition, likewise
unfoldable pub truth_of : View → List (Option ℤ) → Condition → Bool
truth_of view values (not x) = is_not (truth_of view values x)
truth_of view values (and x y) =
    truth_of view values x && truth_of view (drop (length (windows_under x)) values) y
truth_of view values (or x y) =
    truth_of view values x || truth_of view (drop (length (windows_under x)) values) y
truth_of view values (compare op x y) =
    compared op (number_of view values x) (number_of view (drop (length (windows_in x)) values) y)

-- The number and the truth of an expression in a view, which has the values of its windows. A condition is no number, and
-- an amount is not true.
abbrev pub number_in : View → Tree → Option ℤ
number_in view (condition c) = None
number_in view (amount a) = number_of view view.windows a

abbrev pub truth_in : View → Tree → Bool
truth_in view (condition c) = truth_of view view.windows c
truth_in view (amount a) = false
