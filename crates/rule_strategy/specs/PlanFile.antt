-- The plan that an algorithm file is, or its first fault.
use Rattle.std.specs.Prelude.{ℕ, if◌then◌else◌, List, [], ◌∷◌, codes, Option, Some, None, Err}
use Rattle.std.specs.Str.{is_utf8}
use Rattle.toml.specs.Data.{Members}
use Rattle.toml.specs.Parse.{parse_document}
use Rattle.rule_strategy.specs.declared.fault.PlanFault.TheVariants.{Toml}
use Rattle.rule_strategy.specs.declared.plan.Plan.{Plan}
use Rattle.rule_strategy.specs.Answers.{Answer, ◌>>=◌, pure}
use Rattle.rule_strategy.specs.Tables.{only}
use Rattle.rule_strategy.specs.Settings.{settings}
use Rattle.rule_strategy.specs.Securities.{securities}
use Rattle.rule_strategy.specs.Universe.{universe}
use Rattle.rule_strategy.specs.Rules.{rules}

abbrev pub top_keys : List (List ℕ)
top_keys =
    codes "start" ∷ codes "end" ∷ codes "cash" ∷ codes "leverage" ∷ codes "fee-per-share" ∷ codes "fee-minimum"
    ∷ codes "slippage" ∷ codes "securities" ∷ codes "universe" ∷ codes "rules" ∷ []

-- first the tables in the order of their keys, and then the expressions of the rules
unfoldable pub plan_of_table : Members → Answer Plan
plan_of_table table = do
  known ← only top_keys table
  settings ← settings table
  securities ← securities table
  universe ← universe table
  rules ← rules table
  pure (record {
    window = settings.window;
    cash = settings.cash;
    leverage = settings.leverage;
    costs = settings.costs;
    securities = securities;
    universe = universe;
    rules = rules;
  })

-- the table that a file is in TOML
abbrev pub table_in : List ℕ → Option Members
table_in bytes = if is_utf8 bytes then parse_document bytes else None

abbrev pub plan_in : Option Members → Answer Plan
plan_in None = Err Toml
plan_in (Some table) = plan_of_table table

unfoldable pub plan : List ℕ → Answer Plan
plan bytes = plan_in (table_in bytes)
