-- Lists of symbols, and sums over them. A symbol is the list of its bytes.
use Rattle.std.specs.Prelude.{ℕ, ℤ, pos, ◌+ℤ◌, Bool, nat_eq, if◌then◌else◌, List, [], ◌∷◌}
use Rattle.std.specs.List.{list_any}
use Rattle.std.specs.Cmp.Lexicographic.{pointwise}

abbrev pub same_symbol : List ℕ → List ℕ → Bool
same_symbol a b = pointwise nat_eq a b

abbrev pub is_among : List ℕ → List (List ℕ) → Bool
is_among symbol symbols = list_any (same_symbol symbol) symbols

-- the sum of a number of each item
abbrev pub sum_of : {X : Type 0} → (X → ℤ) → List X → ℤ
sum_of f [] = pos 0
sum_of f (x ∷ xs) = f x +ℤ sum_of f xs

-- the sum of a number of each symbol, where a symbol that occurs more than once is counted once
abbrev pub sum_of_each : (List ℕ → ℤ) → List (List ℕ) → ℤ
sum_of_each f [] = pos 0
sum_of_each f (symbol ∷ later) =
    if is_among symbol later then sum_of_each f later else f symbol +ℤ sum_of_each f later
