-- The fields of a line that say something.
use Rattle.std.specs.Prelude.{List, ℕ, [], ◌∷◌, Option, Some, None}
use Rattle.coarse_csv.specs.declared.columns.Columns.{Columns}

pub record Five : Type 0 where
  pub symbol : List ℕ
  pub close : List ℕ
  pub volume : List ℕ
  pub dollars : List ℕ

-- those of at least five fields
abbrev pub columns_in : List (List ℕ) → Option Five
columns_in (identifier ∷ symbol ∷ close ∷ volume ∷ dollars ∷ further) =
    Some (record { symbol = symbol; close = close; volume = volume; dollars = dollars })
columns_in _ = None

-- what the code's own struct holds of these
abbrev pub columns : Columns → Five
columns c = record { symbol = c.symbol.now; close = c.close.now; volume = c.volume.now; dollars = c.dollars.now }

abbrev pub first_field : List (List ℕ) → List ℕ
first_field (field ∷ more) = field
first_field [] = []
