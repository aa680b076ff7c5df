-- The symbols that a rule selects from the rows of one moment.
use Rattle.std.specs.Prelude.{ℕ, List, map, take}
use Rattle.lean_items.specs.declared.coarse_row.CoarseRow.{CoarseRow}
use Rattle.universe_rules.specs.declared.rule.UniverseRule.{UniverseRule}
use Rattle.universe_rules.specs.Passing.{passing}
use Rattle.universe_rules.specs.Ranks.{Rank, rank_of, in_order}

abbrev pub symbol_of : Rank → List ℕ
symbol_of rank = rank.1

-- of the rows that pass the first `top` in order
abbrev pub selected : List CoarseRow → UniverseRule → List (List ℕ)
selected rows rule = take rule.top (map symbol_of (in_order (map rank_of (passing rule rows))))
