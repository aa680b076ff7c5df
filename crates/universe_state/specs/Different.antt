-- Active securities whose symbols differ.
use Rattle.std.specs.Prelude.{ℕ, List, map, fold}
use Rattle.std.specs.List.{IsDistinct}
use Rattle.universe_state.specs.Active.{Active, is_same, with_security}

abbrev pub symbols_of : List Active → List (List ℕ)
symbols_of universe = map (λ security. security.symbol) universe

-- no symbol stands twice
abbrev pub AreDifferent : List Active → Type 0
AreDifferent universe = IsDistinct is_same (symbols_of universe)

-- the universe with some securities, one after the other
abbrev pub with_all : List Active → List Active → List Active
with_all added universe = fold (λ before security. with_security security before) universe added
