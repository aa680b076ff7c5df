-- The summary behind the last moment: counts, the sums of the account, the drawdown, and a line for each position.
use Rattle.std.specs.Prelude.{ℕ, ℤ, pos, ◌-ℤ◌, Bool, not, List, [], ◌∷◌, ◌++◌, length, filter, flat_map, fold, codes, decimal, unwrap_or}
use Rattle.std.specs.Cmp.Lexicographic.{slice_cmp}
use Rattle.std.specs.Int.{int_max}
use Rattle.std.specs.Ordering.{int_eq, nat_cmp, match_ordering}
use Rattle.lean_fixed.specs.Printed.{money_text}
use Rattle.portfolio.specs.Sums as sums
use Rattle.report_lines.specs.EventLines.{quantity_text}
use Rattle.clock_book.specs.Books.{Book, price_of, position_of, cash_of, equity_of, is_live}

-- the greatest amount by which an equity lies below the greatest of a peak and the equities before it
abbrev pub drawdown : ℤ → List ℤ → ℤ
drawdown peak [] = pos 0
drawdown peak (equity ∷ later) = int_max (peak -ℤ equity) (drawdown (int_max peak equity) later)

-- a symbol in its place among others that are in the order of their bytes, each once
abbrev pub placed : List (List ℕ) → List ℕ → List (List ℕ)
placed [] symbol = symbol ∷ []
placed (first ∷ symbols) symbol =
    match_ordering (slice_cmp nat_cmp symbol first) (symbol ∷ first ∷ symbols) (first ∷ symbols) (first ∷ placed symbols symbol)

-- something is held of a symbol, or owed
abbrev pub is_held : Book → List ℕ → Bool
is_held book symbol = not (int_eq (position_of book symbol) (pos 0))

-- the symbols of which something is held, in the order of their bytes
abbrev pub held_symbols : Book → List (List ℕ)
held_symbols book = fold placed [] (filter (is_held book) (sums.traded book.fills))

abbrev pub live_orders : Book → ℕ
live_orders book = length (filter (λ order. is_live order.state) book.orders)

abbrev pub counts_line : ℕ → ℕ → ℕ → List ℕ
counts_line orders fills live =
    codes "end " ++ decimal orders ++ codes " orders " ++ decimal fills ++ codes " fills " ++ decimal live ++ codes " open\n"

abbrev pub amount_line : List ℕ → ℤ → List ℕ
amount_line name amount = name ++ 32 ∷ money_text amount ++ 10 ∷ []

abbrev pub hold_line : List ℕ → ℤ → ℤ → List ℕ
hold_line symbol position price =
    codes "hold " ++ symbol ++ 32 ∷ quantity_text position ++ 32 ∷ money_text price ++ 10 ∷ []

abbrev pub holding_line : Book → List ℕ → List ℕ
holding_line book symbol = hold_line symbol (position_of book symbol) (unwrap_or (price_of book symbol) (pos 0))

-- the summary of a book, with the drawdown of some equities from a starting cash
unfoldable pub summary : ℤ → Book → List ℤ → List ℕ
summary start book equities =
    counts_line (length book.orders) (length book.fills) (live_orders book)
    ++ amount_line (codes "fees") (sums.fees book.fills)
    ++ amount_line (codes "realised") (sums.realised book.fills)
    ++ amount_line (codes "cash") (cash_of book)
    ++ amount_line (codes "equity") (equity_of book)
    ++ amount_line (codes "drawdown") (drawdown start equities)
    ++ flat_map (holding_line book) (held_symbols book)
