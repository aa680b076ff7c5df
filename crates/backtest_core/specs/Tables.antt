-- The windows of all rules, each once: how a table of them grows.
use Rattle.std.specs.Prelude.{◌≡◌, ◌≢◌, ℕ, List, ◌++◌, Some, slice_get, All}
use Rattle.std.specs.List.{AllZip, AllPairs}
use Rattle.bar_windows.specs.Kept.{IsLength}
use Rattle.bar_windows.specs.declared.spec.WindowSpec.{WindowSpec}
use Rattle.rule_strategy.specs.declared.rule.Rule.{Rule}
use Rattle.backtest_core.specs.declared.places.RulePlaces.{RulePlaces}
use Rattle.backtest_core.specs.declared.places.WindowTable.{WindowTable}
use Rattle.backtest_core.specs.Asking.{Finds, FindsRule}

-- the windows are over 1 to 1,000 closes
abbrev pub AreLengths : List WindowSpec → Type 0
AreLengths specs = All (λ spec. IsLength spec.length) specs

-- no two are the same
abbrev pub AreDifferent : List WindowSpec → Type 0
AreDifferent specs = AllPairs (λ one other. one ≢ other) specs

-- some windows stand behind those that were there
pub record Extends (old new : List WindowSpec) : Type 0 where
  pub more : List WindowSpec
  pub is : new ≡ old ++ more
  pub lengths : AreLengths old → AreLengths new
  pub differ : AreDifferent old → AreDifferent new

-- a window has a place
pub record AddsPlace (old new : List WindowSpec) (place : ℕ) (window : WindowSpec) : Type 0 where
  pub more : List WindowSpec
  pub is : new ≡ old ++ more
  pub lengths : IsLength window.length → AreLengths old → AreLengths new
  pub differ : AreDifferent old → AreDifferent new
  pub there : slice_get new place ≡ Some window

-- some windows have places
pub record Adds (old new : List WindowSpec) (places : List ℕ) (windows : List WindowSpec) : Type 0 where
  pub extends : Extends old new
  pub finds : Finds new places windows

-- the windows of a rule, and those of some rules
pub record AddsRule (old new : List WindowSpec) (places : RulePlaces) (rule : Rule) : Type 0 where
  pub extends : Extends old new
  pub finds : FindsRule new places rule

pub record AddsRules (old new : List WindowSpec) (places : List RulePlaces) (rules : List Rule) : Type 0 where
  pub extends : Extends old new
  pub finds : AllZip (FindsRule new) places rules

-- the table of some rules
pub record IsTable (table : WindowTable) (rules : List Rule) : Type 0 where
  pub lengths : AreLengths table.specs.items
  pub differ : AreDifferent table.specs.items
  pub finds : AllZip (FindsRule table.specs.items) table.rules.items rules
