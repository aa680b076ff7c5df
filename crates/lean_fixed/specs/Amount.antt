-- Amounts of dollars, as they are written in an algorithm file.
use Rattle.std.specs.Prelude.{ℕ, ◌+◌, ◌-◌, ◌*◌, ◌^◌, Bool, ◌&&◌, ◌||◌, ◌==◌, nat_le, if◌then◌else◌, List, length, Option, Some, None}
use Rattle.std.specs.List.{before_first, after_first}
use Rattle.lean_fixed.specs.Digits.{are_digits, value_of}

abbrev pub is_point : ℕ → Bool
is_point b = b == 46

-- what stands before the point and behind it
abbrev pub dollars_of : List ℕ → List ℕ
dollars_of text = before_first is_point text

abbrev pub places_of : List ℕ → List ℕ
places_of text = after_first is_point text

-- digits, or digits, a point and one to four digits
abbrev pub is_amount : List ℕ → Bool
is_amount text =
    are_digits text
    || (are_digits (dollars_of text) && are_digits (places_of text) && nat_le (length (places_of text)) 4)

-- the units of 1/10000 dollar that they stand for
abbrev pub units_of : List ℕ → ℕ
units_of text =
    value_of (dollars_of text) * 10000 + value_of (places_of text) * 10 ^ (4 - length (places_of text))

-- an amount of at most 10^20 units
abbrev pub most_amount : ℕ
most_amount = 10 ^ 20

abbrev pub amount : List ℕ → Option ℕ
amount text =
    if is_amount text && nat_le (units_of text) most_amount then Some (units_of text) else None
