-- The names of securities.
use Rattle.std.specs.Prelude.{ℕ, Bool, not, ◌&&◌, ◌||◌, ◌==◌, nat_le, List, length, slice_index}
use Rattle.std.specs.List.{list_all}
use Rattle.lean_fixed.specs.Digits.{is_digit}

-- 'A' to 'Z', '0' to '9' or '.'
abbrev pub is_symbol_byte : ℕ → Bool
is_symbol_byte b = (nat_le 65 b && nat_le b 90) || is_digit b || (b == 46)

-- one to twelve such bytes, of which the first is no point
abbrev pub is_symbol : List ℕ → Bool
is_symbol text =
    nat_le 1 (length text) && nat_le (length text) 12 && not (slice_index text 0 == 46)
    && list_all is_symbol_byte text
