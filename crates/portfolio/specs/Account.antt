-- What a portfolio keeps: running totals, and for each symbol that is held the lot of its fills and its last price.
use Rattle.std.specs.Prelude.{ℕ, List, None, unwrap_or}
use Rattle.std.specs.Map.{lookup, keys_of}
use Rattle.portfolio.specs.declared.totals.Totals.{Totals}
use Rattle.portfolio.specs.declared.totals.Holding.{Holding}
use Rattle.portfolio.specs.Symbols.{same_symbol}
use Rattle.portfolio.specs.Lots.{no_lot}

pub record Account : Type 0 where
  pub totals : Totals
  pub entries : List (List ℕ × Holding)

-- nothing is held, and there is no price
abbrev pub nothing_held : Holding
nothing_held = record { lot = no_lot; price = None }

-- what is kept of a symbol
abbrev pub holding_in : List (List ℕ × Holding) → List ℕ → Holding
holding_in entries symbol = unwrap_or (lookup (same_symbol symbol) entries) nothing_held

-- the symbols of the entries
abbrev pub keys_in : List (List ℕ × Holding) → List (List ℕ)
keys_in entries = keys_of entries

-- the symbols in the order in which they were first held
abbrev pub held : Account → List (List ℕ)
held account = keys_in account.entries
