-- What the lines of one file say, where `row` is what a text says: a row, the reason for which it has none, or nothing.
use Rattle.std.specs.Prelude.{ℕ, Bool, if◌then◌else◌, List, [], ◌∷◌, filter_map, Option, Some, None, option_map, Result, Ok, Err}
use Rattle.lean_items.specs.declared.reason.Reason.{Reason}
use Rattle.lean_items.specs.declared.reason.Reason.TheVariants.{Long, Many, Order}
use Rattle.line_source.specs.Lines.{FileLine, TextLine, BlankLine, LongLine, ManyLine}

-- what a line says: its number, and its row or the reason for which it has none
pub record Entry (X : Type 0) : Type 0 where
  pub line : ℕ
  pub says : Result X Reason

module _ {X : Type 0} (row : List ℕ → Option (Result X Reason)) where
  -- a blank line says nothing, nor does one that is passed over
  abbrev pub said : FileLine → Option (Result X Reason)
  said BlankLine = None
  said (TextLine text) = row text
  said LongLine = Some (Err Long)
  said ManyLine = Some (Err Many)

  abbrev pub entry_of : ℕ × FileLine → Option (Entry X)
  entry_of line = option_map (λ says. record { line = line.0; says = says }) (said line.1)

  -- one entry for each numbered line that says something
  abbrev pub entries : List (ℕ × FileLine) → List (Entry X)
  entries lines = filter_map entry_of lines

module _ {X : Type 0} (follows : X → X → Bool) where
  -- a row that does not follow the row before it is malformed for its order
  abbrev pub checked : Option X → Result X Reason → Result X Reason
  checked before (Err reason) = Err reason
  checked None (Ok row) = Ok row
  checked (Some before) (Ok row) = if follows before row then Ok row else Err Order

  abbrev pub row_before : Option X → Result X Reason → Option X
  row_before before (Err reason) = before
  row_before before (Ok row) = Some row

  -- the entries, each held against the row of the file before it
  abbrev pub in_order : Option X → List (Entry X) → List (Entry X)
  in_order before [] = []
  in_order before (entry ∷ more) =
      record { line = entry.line; says = checked before entry.says } ∷ in_order (row_before before entry.says) more
