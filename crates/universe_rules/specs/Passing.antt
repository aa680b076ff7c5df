-- Which rows of a coarse file count.
use Rattle.std.specs.Prelude.{ℕ, Bool, not, ◌&&◌, int_le, nat_eq, List, [], ◌∷◌, filter}
use Rattle.std.specs.Cmp.Lexicographic.{pointwise}
use Rattle.lean_items.specs.declared.coarse_row.CoarseRow.{CoarseRow}
use Rattle.universe_rules.specs.declared.rule.UniverseRule.{UniverseRule}

-- two symbols are the same, byte by byte
abbrev pub is_same : List ℕ → List ℕ → Bool
is_same = pointwise nat_eq

-- only the first row of each symbol counts
abbrev pub first_rows : List CoarseRow → List CoarseRow
first_rows [] = []
first_rows (row ∷ rows) = row ∷ filter (λ later. not (is_same row.symbol later.symbol)) (first_rows rows)

-- a row passes where its close, volume and dollars reach the minima of the rule
abbrev pub passes : UniverseRule → CoarseRow → Bool
passes rule row =
    int_le rule.min_price.0 row.close.0 && int_le rule.min_volume.0 row.volume.0 && int_le rule.min_dollars row.dollars

abbrev pub passing : UniverseRule → List CoarseRow → List CoarseRow
passing rule rows = filter (passes rule) (first_rows rows)
