-- Fills and marks, small enough to compute an account on.
use Rattle.std.specs.Prelude.{ℕ, ℤ, pos, negsuc, List, [], ◌∷◌, ◌++◌}
use Rattle.lean_orders.specs.declared.event.Fill.{Fill}
use Rattle.portfolio.specs.Sums.{Mark}

-- two symbols
abbrev pub spider : List ℕ
spider = 83 ∷ []

abbrev pub apple : List ℕ
apple = 65 ∷ []

abbrev pub trade : List ℕ → ℤ → ℤ → ℤ → Fill
trade symbol quantity price fee =
    record { symbol = symbol; quantity = record { 0 = quantity }; price = record { 0 = price }; fee = record { 0 = fee } }

abbrev pub mark : List ℕ → ℤ → Mark
mark symbol price = record { symbol = symbol; price = price }

-- 1 at 10, 2 at 11, and 1 sold at 12
abbrev pub three : List Fill
three = trade spider (pos 1) (pos 10) (pos 0) ∷ trade spider (pos 2) (pos 11) (pos 0) ∷ trade spider (negsuc 0) (pos 12) (pos 0) ∷ []

-- and 2 more sold at 12
abbrev pub four : List Fill
four = three ++ trade spider (negsuc 1) (pos 12) (pos 0) ∷ []

-- 10 at 100, 20 sold at 110 for a fee of 1, and 5 bought back at 90
abbrev pub through_zero : List Fill
through_zero =
    trade spider (pos 10) (pos 100) (pos 0) ∷ trade spider (negsuc 19) (pos 110) (pos 1) ∷ trade spider (pos 5) (pos 90) (pos 0) ∷ []
