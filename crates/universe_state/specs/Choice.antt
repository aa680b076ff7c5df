-- What a choice of symbols marks, and which securities it adds.
use Rattle.std.specs.Prelude.{ℕ, ◌-◌, Bool, not, ◌&&◌, List, [], ◌∷◌, length, map, filter}
use Rattle.std.specs.List.{list_any}
use Rattle.universe_state.specs.Active.{Active, is_same, is_active}

-- as many securities may be active
abbrev pub most_active : ℕ
most_active = 256

abbrev pub is_selected : List (List ℕ) → List ℕ → Bool
is_selected symbols symbol = list_any (λ selected. is_same selected symbol) symbols

-- a security that is not selected is marked, and one that is selected is not; a listed one never is
abbrev pub marked_by : List (List ℕ) → Active → Active
marked_by symbols security = record security { marked = not security.listed && not (is_selected symbols security.symbol) }

abbrev pub marked : List (List ℕ) → List Active → List Active
marked symbols universe = map (marked_by symbols) universe

-- some symbols, each once
abbrev pub each_once : List (List ℕ) → List (List ℕ)
each_once [] = []
each_once (symbol ∷ symbols) = symbol ∷ filter (λ later. not (is_same symbol later)) (each_once symbols)

-- the selected symbols that are not active, in the order of selection
abbrev pub additions : List (List ℕ) → List Active → List (List ℕ)
additions symbols universe = filter (λ symbol. not (is_active universe symbol)) (each_once symbols)

-- how many more may be active
abbrev pub room : List Active → ℕ
room universe = most_active - length universe
