-- Expressions as trees: amounts, which are numbers, and conditions, which are true or false.
use Rattle.std.specs.Prelude.{ℤ, List, [], ◌∷◌, ◌++◌}
use Rattle.bar_windows.specs.declared.spec.WindowSpec.{WindowSpec}
use Rattle.rule_lang.specs.declared.fault.Want.{Want}
use Rattle.rule_lang.specs.declared.fault.Want.TheVariants.{Truth, Number}
use Rattle.rule_lang.specs.declared.token.Name.{Name}
use Rattle.rule_lang.specs.declared.token.Arithmetic.{Arithmetic}
use Rattle.rule_lang.specs.declared.token.Comparison.{Comparison}

pub data Amount : Type 0 where
  -- a number in units of 1/10000
  number : ℤ → Amount
  named : Name → Amount
  window : WindowSpec → Amount
  -- the sign `-`
  minus : Amount → Amount
  arithmetic : Arithmetic → Amount → Amount → Amount

pub data Condition : Type 0 where
  not : Condition → Condition
  and : Condition → Condition → Condition
  or : Condition → Condition → Condition
  compare : Comparison → Amount → Amount → Condition

pub data Tree : Type 0 where
  condition : Condition → Tree
  amount : Amount → Tree

abbrev pub kind_of : Tree → Want
kind_of (condition c) = Truth
kind_of (amount a) = Number

-- the windows of an expression, as they stand in its text
unfoldable pub windows_in : Amount → List WindowSpec
windows_in (number n) = []
windows_in (named n) = []
windows_in (window spec) = spec ∷ []
windows_in (minus x) = windows_in x
windows_in (arithmetic op x y) = windows_in x ++ windows_in y

unfoldable pub windows_under : Condition → List WindowSpec
windows_under (not x) = windows_under x
windows_under (and x y) = windows_under x ++ windows_under y
windows_under (or x y) = windows_under x ++ windows_under y
windows_under (compare op x y) = windows_in x ++ windows_in y

abbrev pub windows_of : Tree → List WindowSpec
windows_of (condition c) = windows_under c
windows_of (amount a) = windows_in a
