-- What is given at each of some moments, one moment after another.
use Rattle.std.specs.Prelude.{◌≡◌, ℕ, ◌+◌, ◌-◌, ◌<◌, List, [], flat_map}
use Rattle.std.specs.List.{range_with_len}

module _ {A : Type 0} (gives : ℕ → List A) where
  -- what the moments from one to another give, both included
  unfoldable pub walk : ℕ → ℕ → List A
  walk from to = flat_map gives (range_with_len from (to + 1 - from))

  -- the moments between two, both left out, give nothing
  abbrev pub IsIdle : ℕ → ℕ → Type 0
  IsIdle after until = (t : ℕ) → after < t → t < until → gives t ≡ []
