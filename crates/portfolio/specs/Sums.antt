-- What the list of all fills and the list of all marks make of an account. Money is in 1/10000 dollar. Each number is
-- a sum over the whole lists.
use Rattle.std.specs.Prelude.{ℕ, ℤ, pos, unsigned_abs, ◌+ℤ◌, ◌-ℤ◌, ◌*ℤ◌, not, if◌then◌else◌, List, [], ◌∷◌, filter, map, Option, Some, None, unwrap_or}
use Rattle.std.specs.Option.{option_or}
use Rattle.lean_orders.specs.declared.event.Fill.{Fill}
use Rattle.lean_fixed.specs.Ranges.{IsPrice}
use Rattle.lean_orders.specs.Traded.{IsFill}
use Rattle.portfolio.specs.Symbols.{same_symbol, sum_of, sum_of_each}
use Rattle.portfolio.specs.Lots.{lot_of}

-- a price at which a symbol was marked
pub record Mark : Type 0 where
  pub symbol : List ℕ
  pub price : ℤ

-- the fills of a symbol, in their order
abbrev pub fills_of : List ℕ → List Fill → List Fill
fills_of symbol fills = filter (λ fill. same_symbol symbol fill.symbol) fills

-- the starting cash less what all fills cost: quantity times price, and the fee
abbrev pub cash : ℤ → List Fill → ℤ
cash start fills = start -ℤ sum_of (λ fill. (fill.quantity.0 *ℤ fill.price.0) +ℤ fill.fee.0) fills

-- the shares that are held of a symbol, negative where they are owed
abbrev pub position : List ℕ → List Fill → ℤ
position symbol fills = sum_of (λ fill. fill.quantity.0) (fills_of symbol fills)

abbrev pub fees : List Fill → ℤ
fees fills = sum_of (λ fill. fill.fee.0) fills

-- the symbols that were traded, one for each fill
abbrev pub traded : List Fill → List (List ℕ)
traded fills = map (λ fill. fill.symbol) fills

-- the realised profit of all symbols
abbrev pub realised : List Fill → ℤ
realised fills = sum_of_each (λ symbol. (lot_of (fills_of symbol fills)).profit) (traded fills)

-- the last price at which a symbol was marked
abbrev pub last_mark : List ℕ → List Mark → Option ℤ
last_mark symbol [] = None
last_mark symbol (mark ∷ later) =
    option_or (last_mark symbol later) (if same_symbol symbol mark.symbol then Some mark.price else None)

-- the symbols that were marked, one for each mark
abbrev pub marked : List Mark → List (List ℕ)
marked marks = map (λ mark. mark.symbol) marks

-- the value of a position by the last mark of its symbol; a symbol that was never marked adds nothing
abbrev pub value_of : List Fill → List Mark → List ℕ → ℤ
value_of fills marks symbol = position symbol fills *ℤ unwrap_or (last_mark symbol marks) (pos 0)

-- the same, whether the shares are held or owed
abbrev pub gross_of : List Fill → List Mark → List ℕ → ℤ
gross_of fills marks symbol =
    pos (unsigned_abs (position symbol fills)) *ℤ unwrap_or (last_mark symbol marks) (pos 0)

-- the value of all positions, and their gross value
abbrev pub worth : List Fill → List Mark → ℤ
worth fills marks = sum_of_each (value_of fills marks) (marked marks)

abbrev pub gross : List Fill → List Mark → ℤ
gross fills marks = sum_of_each (gross_of fills marks) (marked marks)

-- the cash and the value of all positions
abbrev pub equity : ℤ → List Fill → List Mark → ℤ
equity start fills marks = cash start fills +ℤ worth fills marks

-- the gross value of the positions in all other symbols
abbrev pub gross_without : List ℕ → List Fill → List Mark → ℤ
gross_without symbol fills marks =
    sum_of_each (gross_of fills marks) (filter (λ other. not (same_symbol symbol other)) (marked marks))

-- fills and marks in their ranges
abbrev pub AreFills : List Fill → Type 0
AreFills [] = Unit {0}
AreFills (fill ∷ later) = IsFill fill × AreFills later

abbrev pub AreMarks : List Mark → Type 0
AreMarks [] = Unit {0}
AreMarks (mark ∷ later) = IsPrice mark.price × AreMarks later
