-- What a window says of all closes of a security, in the order in which they came.
use Rattle.std.specs.Prelude.{ℕ, ◌-◌, ◌+◌, nat_le, nat_lt, if◌then◌else◌, ℤ, pos, ◌+ℤ◌, ◌-ℤ◌, int_div, List, [], ◌∷◌, length, drop, fold, slice_index_or, Option, Some, None}
use Rattle.std.specs.Int.{int_max, int_min}
use Rattle.lean_fixed.specs.declared.money.Price.{Price}
use Rattle.bar_windows.specs.declared.spec.Func.{Func}
use Rattle.bar_windows.specs.declared.spec.Func.TheVariants.{Sma, Highest, Lowest, Change}

-- the last n closes, or all where there are fewer
abbrev pub last_closes : ℕ → List Price → List Price
last_closes n closes = drop (length closes - n) closes

abbrev pub total : List Price → ℤ
total [] = pos 0
total (close ∷ closes) = close.0 +ℤ total closes

abbrev pub greatest : List Price → Option ℤ
greatest [] = None
greatest (close ∷ closes) = Some (fold (λ most other. int_max most other.0) close.0 closes)

abbrev pub least : List Price → Option ℤ
least [] = None
least (close ∷ closes) = Some (fold (λ most other. int_min most other.0) close.0 closes)

-- the close that came so many before the last
abbrev pub close_before : ℕ → List Price → ℤ
close_before n closes = (slice_index_or closes (length closes - (n + 1)) (record { 0 = pos 0 })).0

-- The average of the last n closes, cut, and the greatest and the least of them, where there are n. The last close less
-- the one n before it, where there are n + 1.
abbrev pub window : Func → ℕ → List Price → Option ℤ
window Sma n closes =
    if nat_le n (length closes) then Some (int_div (total (last_closes n closes)) (pos n)) else None
window Highest n closes = if nat_le n (length closes) then greatest (last_closes n closes) else None
window Lowest n closes = if nat_le n (length closes) then least (last_closes n closes) else None
window Change n closes =
    if nat_lt n (length closes) then Some (close_before 0 closes -ℤ close_before n closes) else None
