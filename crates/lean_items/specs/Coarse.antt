-- The rows that a coarse universe file can have.
use Rattle.std.specs.Prelude.{ℕ, ℤ, pos, Bool, IsTrue}
use Rattle.lean_fixed.specs.Ranges.{IsWithin, is_within, IsVolume, most_price}
use Rattle.lean_fixed.specs.Symbol.{is_symbol}
use Rattle.lean_items.specs.declared.coarse_row.CoarseRow.{CoarseRow}

-- the last price of a day, which may be 0
abbrev pub IsClose : ℤ → Type 0
IsClose n = IsWithin (pos 0) (pos most_price) n

abbrev pub is_close : ℤ → Bool
is_close n = is_within (pos 0) (pos most_price) n

-- what was paid on a day, in whole dollars
abbrev pub most_dollars : ℕ
most_dollars = 1000000000000000

abbrev pub IsDollars : ℤ → Type 0
IsDollars n = IsWithin (pos 0) (pos most_dollars) n

abbrev pub is_dollars : ℤ → Bool
is_dollars n = is_within (pos 0) (pos most_dollars) n

pub record IsCoarse (row : CoarseRow) : Type 0 where
  pub symbol : IsTrue (is_symbol row.symbol)
  pub close : IsClose row.close.0
  pub volume : IsVolume row.volume.0
  pub dollars : IsDollars row.dollars
