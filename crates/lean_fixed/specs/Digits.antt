-- Numbers that are written in decimal digits.
use Rattle.std.specs.Prelude.{ℕ, ◌+◌, ◌-◌, ◌*◌, ◌^◌, Bool, not, ◌&&◌, ◌==◌, nat_le, if◌then◌else◌, List, length, fold, Option, Some, None}
use Rattle.std.specs.List.{list_all}

-- '0' to '9'
abbrev pub is_digit : ℕ → Bool
is_digit b = nat_le 48 b && nat_le b 57

-- one or more digits and nothing else
abbrev pub are_digits : List ℕ → Bool
are_digits bytes = not (length bytes == 0) && list_all is_digit bytes

-- what `n` becomes when these digits are written behind it
abbrev pub value_from : ℕ → List ℕ → ℕ
value_from n bytes = fold (λ m b. m * 10 + (b - 48)) n bytes

-- what the digits stand for
abbrev pub value_of : List ℕ → ℕ
value_of bytes = value_from 0 bytes

-- the number that one or more digits of a value of at most 10^18 stand for
abbrev pub digits : List ℕ → Option ℕ
digits bytes =
    if are_digits bytes && nat_le (value_of bytes) (10 ^ 18) then Some (value_of bytes) else None
