-- Coarse rows in a line, for worked values.
use Rattle.std.specs.Prelude.{ℕ, pos, List}
use Rattle.lean_items.specs.declared.coarse_row.CoarseRow.{CoarseRow}
use Rattle.universe_rules.specs.declared.rule.UniverseRule.{UniverseRule}

-- symbol, close, volume and dollars
abbrev pub row : List ℕ → ℕ → ℕ → ℕ → CoarseRow
row symbol close volume dollars =
    record { symbol = symbol; close = record { 0 = pos close }; volume = record { 0 = pos volume }; dollars = pos dollars }

-- top and the three minima
abbrev pub rule : ℕ → ℕ → ℕ → ℕ → UniverseRule
rule top price volume dollars = record {
  top = top;
  min_price = record { 0 = pos price };
  min_volume = record { 0 = pos volume };
  min_dollars = pos dollars;
}
