-- The fields of a line of a data file, and the plain numbers in them.
use Rattle.std.specs.Prelude.{ℕ, ◌==◌, if◌then◌else◌, List, [], ◌∷◌, Option, None}
use Rattle.std.specs.List.{list_all, before_first, after_first}
use Rattle.lean_fixed.specs.Digits.{digits}

-- a byte at the start of the first of some pieces of a text
abbrev pub begin_first : ℕ → List (List ℕ) → List (List ℕ)
begin_first b [] = (b ∷ []) ∷ []
begin_first b (piece ∷ pieces) = (b ∷ piece) ∷ pieces

-- what stands between the commas of a text: one field more than it has commas
abbrev pub fields : List ℕ → List (List ℕ)
fields [] = [] ∷ []
fields (b ∷ text) = if b == 44 then [] ∷ fields text else begin_first b (fields text)

-- The value of one or more digits that may be followed by a point and any number of zeros.
-- There is none where the form is another, or the digits stand for more than 10^18.
abbrev pub plain_number : List ℕ → Option ℕ
plain_number field =
    if list_all (λ b. b == 48) (after_first (λ b. b == 46) field)
    then digits (before_first (λ b. b == 46) field)
    else None
