-- The universe of a file: which securities it selects, and their bars.
use Rattle.std.specs.Prelude.{ℕ, pos, List, [], ◌∷◌, codes, Option, Some, None, Ok}
use Rattle.toml.specs.Data.{Data, Members, get_member}
use Rattle.universe_rules.specs.declared.rule.UniverseRule.{UniverseRule}
use Rattle.rule_strategy.specs.declared.universe.UniversePlan.{UniversePlan}
use Rattle.rule_strategy.specs.Answers.{Answer, ◌>>=◌, pure}
use Rattle.rule_strategy.specs.Values.{whole, amount}
use Rattle.rule_strategy.specs.Tables.{only, row, table_of}
use Rattle.rule_strategy.specs.Securities.{bars}

unfoldable pub selection : Members → Answer UniverseRule
selection table = do
  top ← row (codes "top") (whole 1 256) None table
  price ← row (codes "min-price") (amount 0 10000000000) (Some 0) table
  volume ← row (codes "min-volume") (whole 0 1000000000000000) (Some 0) table
  dollars ← row (codes "min-dollar-volume") (whole 0 1000000000000000) (Some 0) table
  pure (record { top = top; min_price = record { 0 = pos price }; min_volume = record { 0 = pos volume }; min_dollars = pos dollars })

abbrev pub universe_keys : List (List ℕ)
universe_keys =
    codes "resolution" ∷ codes "fill-forward" ∷ codes "period" ∷ codes "top" ∷ codes "min-price" ∷ codes "min-volume"
    ∷ codes "min-dollar-volume" ∷ []

unfoldable pub universe_table : Members → Answer UniversePlan
universe_table table = do
  known ← only universe_keys table
  bars ← bars table
  rule ← selection table
  pure (record { resolution = bars.resolution; fill = bars.fill; period = bars.period; rule = rule })

abbrev pub universe_if : Option Data → Answer (Option UniversePlan)
universe_if None = Ok None
universe_if (Some d) = do
  table ← table_of (codes "universe") d
  universe ← universe_table table
  pure (Some universe)

unfoldable pub universe : Members → Answer (Option UniversePlan)
universe table = universe_if (get_member (codes "universe") table)
