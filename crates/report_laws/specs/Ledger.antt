-- What fills and prices add up to, and the summary that they make.
use Rattle.std.specs.Prelude.{ℕ, ℤ, pos, ◌+ℤ◌, ◌-ℤ◌, ◌*ℤ◌, Bool, not, List, [], ◌++◌, length, filter, flat_map, fold, codes, unwrap_or}
use Rattle.std.specs.Ordering.{int_eq}
use Rattle.lean_orders.specs.declared.event.Fill.{Fill}
use Rattle.portfolio.specs.Symbols.{same_symbol, sum_of, sum_of_each}
use Rattle.portfolio.specs.Sums.{Mark, last_mark, marked, traded, realised}
use Rattle.clock_run.specs.Summary.{drawdown, placed, counts_line, amount_line, hold_line}

-- a starting cash, fills, and the prices of symbols, of which the last one counts
pub record Ledger : Type 0 where
  pub start : ℤ
  pub fills : List Fill
  pub prices : List Mark

-- the starting cash less what each fill cost, quantity times price and the fee
abbrev pub cash_in : Ledger → ℤ
cash_in ledger = ledger.start -ℤ sum_of (λ fill. (fill.quantity.0 *ℤ fill.price.0) +ℤ fill.fee.0) ledger.fills

-- the shares of a symbol: the quantities of its fills
abbrev pub position_in : Ledger → List ℕ → ℤ
position_in ledger symbol = sum_of (λ fill. fill.quantity.0) (filter (λ fill. same_symbol symbol fill.symbol) ledger.fills)

-- the last price of a symbol, or 0 where it has none
abbrev pub price_in : Ledger → List ℕ → ℤ
price_in ledger symbol = unwrap_or (last_mark symbol ledger.prices) (pos 0)

-- the cash, and of each symbol that has a price the shares at that price
abbrev pub equity_in : Ledger → ℤ
equity_in ledger =
    cash_in ledger +ℤ sum_of_each (λ symbol. position_in ledger symbol *ℤ price_in ledger symbol) (marked ledger.prices)

-- the symbols of which something is held or owed, in the order of their bytes
abbrev pub is_held_in : Ledger → List ℕ → Bool
is_held_in ledger symbol = not (int_eq (position_in ledger symbol) (pos 0))

abbrev pub held_in : Ledger → List (List ℕ)
held_in ledger = fold placed [] (filter (is_held_in ledger) (traded ledger.fills))

-- the summary: so many orders, of which some are open, and the equities of the close lines; all else is told by the ledger
abbrev pub summary_in : Ledger → ℕ → ℕ → List ℤ → List ℕ
summary_in ledger orders live equities =
    counts_line orders (length ledger.fills) live
    ++ amount_line (codes "fees") (sum_of (λ fill. fill.fee.0) ledger.fills)
    ++ amount_line (codes "realised") (realised ledger.fills)
    ++ amount_line (codes "cash") (cash_in ledger)
    ++ amount_line (codes "equity") (equity_in ledger)
    ++ amount_line (codes "drawdown") (drawdown ledger.start equities)
    ++ flat_map (λ symbol. hold_line symbol (position_in ledger symbol) (price_in ledger symbol)) (held_in ledger)
