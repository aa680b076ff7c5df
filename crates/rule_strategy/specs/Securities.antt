-- The securities that a file lists.
use Rattle.std.specs.Prelude.{ℕ, true, List, [], ◌∷◌, ◌++◌, map, codes, Some, None, Ok}
use Rattle.toml.specs.Data.{Data, Items, no_items, item, Members, as_bool}
use Rattle.rule_strategy.specs.declared.security.Bars.{Bars}
use Rattle.rule_strategy.specs.declared.security.Security.{Security}
use Rattle.rule_strategy.specs.Answers.{Answer, ◌>>=◌, pure}
use Rattle.rule_strategy.specs.Values.{new_symbol, resolution, period}
use Rattle.rule_strategy.specs.Tables.{only, row, optional, array_row, table_of}

-- the bars of a security, and of those of a universe
unfoldable pub bars : Members → Answer Bars
bars table = do
  resolution ← row (codes "resolution") resolution None table
  fill ← row (codes "fill-forward") as_bool (Some true) table
  period ← optional (codes "period") (period resolution) table
  pure (record { resolution = resolution; fill = fill; period = period })

abbrev pub symbols_of : List Security → List (List ℕ)
symbols_of securities = map (λ security. security.symbol) securities

abbrev pub security_keys : List (List ℕ)
security_keys = codes "symbol" ∷ codes "resolution" ∷ codes "fill-forward" ∷ codes "period" ∷ []

-- a security behind some others, from which its symbol differs
unfoldable pub security : List Security → Members → Answer Security
security earlier table = do
  known ← only security_keys table
  symbol ← row (codes "symbol") (new_symbol (symbols_of earlier)) None table
  bars ← bars table
  pure (record { symbol = symbol; resolution = bars.resolution; fill = bars.fill; period = bars.period })

unfoldable pub next_security : List Security → Data → Answer Security
next_security earlier d = do
  table ← table_of (codes "securities") d
  security earlier table

-- the others behind the earlier ones
unfoldable pub securities_from : List Security → Items → Answer (List Security)
securities_from earlier no_items = Ok earlier
securities_from earlier (item d others) = do
  next ← next_security earlier d
  securities_from (earlier ++ next ∷ []) others

unfoldable pub securities : Members → Answer (List Security)
securities table = do
  items ← array_row (codes "securities") 256 table
  securities_from [] items
