-- What holds of every plan that was read. Each call that takes a plan or a rule asks for no more than this.
use Rattle.std.specs.Prelude.{◌≡◌, ◌≢◌, ℕ, ◌%◌, ◌≤◌, Bool, true, false, ◌≤ℤ◌, ◌+ℤ◌, pos, List, [], ◌∷◌, length, All, Option, Some, None}
use Rattle.lean_fixed.specs.declared.resolution.Resolution.{Resolution}
use Rattle.lean_fixed.specs.declared.resolution.Resolution.TheVariants.{Minute, Hour, Daily}
use Rattle.lean_fixed.specs.declared.time.Window.{Window}
use Rattle.lean_fixed.specs.Ranges.{IsWithin, IsWindow, IsStartingCash, IsLeverage}
use Rattle.lean_fixed.specs.Symbol.{is_symbol}
use Rattle.trade_costs.specs.Fees.{IsCosts}
use Rattle.universe_rules.specs.declared.rule.UniverseRule.{UniverseRule}
use Rattle.rule_lang.specs.declared.fault.Want.{Want}
use Rattle.rule_lang.specs.declared.fault.Want.TheVariants.{Truth, Number}
use Rattle.rule_lang.specs.Tree.{Tree, kind_of}
use Rattle.rule_strategy.specs.declared.plan.Plan.{Plan}
use Rattle.rule_strategy.specs.declared.rule.Rule.{Rule}
use Rattle.rule_strategy.specs.declared.rule.Action.{Action}
use Rattle.rule_strategy.specs.declared.rule.Action.TheVariants as act
use Rattle.rule_strategy.specs.declared.security.Security.{Security}
use Rattle.rule_strategy.specs.declared.universe.UniversePlan.{UniversePlan}
use Rattle.rule_strategy.specs.RuleTexts.{rests_at_price, has_limit}
use Rattle.rule_strategy.specs.Securities.{symbols_of}

-- a run of 1 to 20,000 days
pub record IsRun (window : Window) : Type 0 where
  pub days : IsWindow window
  pub order : window.first.0 ≤ℤ window.last.0
  pub few : window.last.0 ≤ℤ (window.first.0 +ℤ pos 19999)

-- a period divides a day; of hour bars it is a multiple of 60, and daily bars have none
abbrev pub IsPeriod : Resolution → Option ℕ → Type 0
IsPeriod resolution None = Unit {0}
IsPeriod Minute (Some n) = (1 ≤ n) × (1440 % n ≡ 0)
IsPeriod Hour (Some n) = (1 ≤ n) × (1440 % n ≡ 0) × (n % 60 ≡ 0)
IsPeriod Daily (Some n) = ⊥

pub record IsSecurity (security : Security) : Type 0 where
  pub symbol : is_symbol security.symbol ≡ true
  pub period : IsPeriod security.resolution security.period

abbrev pub AreDistinct : List (List ℕ) → Type 0
AreDistinct [] = Unit {0}
AreDistinct (symbol ∷ others) = All (λ other. symbol ≢ other) others × AreDistinct others

pub record IsSelection (rule : UniverseRule) : Type 0 where
  pub top : (1 ≤ rule.top) × (rule.top ≤ 256)
  pub price : IsWithin (pos 0) (pos 10000000000) rule.min_price.0
  pub volume : IsWithin (pos 0) (pos 1000000000000000) rule.min_volume.0
  pub dollars : IsWithin (pos 0) (pos 1000000000000000) rule.min_dollars

pub record IsUniverse (universe : UniversePlan) : Type 0 where
  pub period : IsPeriod universe.resolution universe.period
  pub selection : IsSelection universe.rule

abbrev pub IsUniverseIf : Option UniversePlan → Type 0
IsUniverseIf None = Unit {0}
IsUniverseIf (Some universe) = IsUniverse universe

-- an expression of the kind that is wanted
abbrev pub IsOf : Want → Tree → Type 0
IsOf want tree = kind_of tree ≡ want

-- a number where one is taken, and none where it is not
abbrev pub IsNumberIf : Bool → Option Tree → Type 0
IsNumberIf true (Some tree) = IsOf Number tree
IsNumberIf false None = Unit {0}
IsNumberIf _ _ = ⊥

abbrev pub IsAction : Action → Type 0
IsAction (act.Order kind quantity price limit) =
    IsOf Number quantity × IsNumberIf (rests_at_price kind) price × IsNumberIf (has_limit kind) limit
IsAction (act.Update price) = IsOf Number price
IsAction act.Cancel = Unit {0}

pub record IsRule (rule : Rule) : Type 0 where
  pub when : IsOf Truth rule.when
  pub action : IsAction rule.action

pub record IsPlan (plan : Plan) : Type 0 where
  pub window : IsRun plan.window
  pub cash : IsStartingCash plan.cash.0
  pub leverage : IsLeverage plan.leverage
  pub costs : IsCosts plan.costs
  pub listed : length plan.securities ≤ 256
  pub distinct : AreDistinct (symbols_of plan.securities)
  pub securities : All IsSecurity plan.securities
  pub universe : IsUniverseIf plan.universe
  pub few_rules : length plan.rules ≤ 64
  pub rules : All IsRule plan.rules
