-- What a line of a coarse universe file says: a row, the first reason for which it is none, or nothing, where its symbol is no
-- symbol. A row has at least five fields: an identifier, which says nothing, the symbol, the close, the volume, and the dollar
-- volume. Further fields say nothing.
use Rattle.std.specs.Prelude.{ℕ, ◌+◌, ◌*◌, nat_le, if◌then◌else◌, pos, List, ◌∷◌, ◌++◌, take, codes, Option, Some, None, option_map, Result, Ok, Err}
use Rattle.std.specs.List.{list_all}
use Rattle.lean_fixed.specs.Digits.{is_digit, digits, value_of}
use Rattle.lean_fixed.specs.Amount.{dollars_of, places_of}
use Rattle.lean_fixed.specs.Fields.{fields, plain_number}
use Rattle.lean_fixed.specs.Symbol.{is_symbol}
use Rattle.lean_fixed.specs.Ranges.{most_price, most_volume}
use Rattle.lean_items.specs.declared.reason.Reason.{Reason}
use Rattle.lean_items.specs.declared.reason.Reason.TheVariants.{Fields, Price, Volume}
use Rattle.lean_items.specs.declared.coarse_row.CoarseRow.{CoarseRow}
use Rattle.lean_items.specs.Coarse.{most_dollars}

-- a number where it is not over a limit
abbrev pub up_to : ℕ → Option ℕ → Option ℕ
up_to most None = None
up_to most (Some n) = if nat_le n most then Some n else None

-- A decimal is one or more digits that may be followed by a point and any number of digits. This is its whole part, where that
-- stands for at most 10^18.
abbrev pub whole_in : List ℕ → Option ℕ
whole_in field = if list_all is_digit (places_of field) then digits (dollars_of field) else None

-- the first four digits behind the point, as many zeros as are missing
abbrev pub four_places : List ℕ → List ℕ
four_places field = take 4 (places_of field ++ codes "0000")

-- the close in 1/10000 dollar, where digits after the fourth are cut
abbrev pub close_in : List ℕ → Option ℕ
close_in field =
    up_to most_price (option_map (λ dollars. dollars * 10000 + value_of (four_places field)) (whole_in field))

abbrev pub volume_in : List ℕ → Option ℕ
volume_in field = up_to most_volume (plain_number field)

-- the dollar volume in whole dollars
abbrev pub dollars_in : List ℕ → Option ℕ
dollars_in field = up_to most_dollars (whole_in field)

abbrev pub row_of : List ℕ → ℕ → ℕ → ℕ → CoarseRow
row_of symbol close volume dollars = record {
  symbol = symbol;
  close = record { 0 = pos close };
  volume = record { 0 = pos volume };
  dollars = pos dollars;
}

-- the row of what stands in the fields behind the symbol, or the first of them in which nothing good stands
abbrev pub row_of_values : List ℕ → Option ℕ → Option ℕ → Option ℕ → Result (Option CoarseRow) Reason
row_of_values symbol None _ _ = Err Price
row_of_values symbol (Some close) (Some volume) (Some dollars) = Ok (Some (row_of symbol close volume dollars))
row_of_values symbol (Some _) _ _ = Err Volume

abbrev pub row_of_fields : List (List ℕ) → Result (Option CoarseRow) Reason
row_of_fields (identifier ∷ symbol ∷ close ∷ volume ∷ dollars ∷ further) =
    if is_symbol symbol then row_of_values symbol (close_in close) (volume_in volume) (dollars_in dollars) else Ok None
row_of_fields _ = Err Fields

-- the row that a line says
unfoldable pub coarse_row : List ℕ → Result (Option CoarseRow) Reason
coarse_row text = row_of_fields (fields text)
