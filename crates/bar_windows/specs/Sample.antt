-- Closes in a row, for worked values.
use Rattle.std.specs.Prelude.{ℕ, pos, List, map}
use Rattle.lean_fixed.specs.declared.money.Price.{Price}

abbrev pub closes : List ℕ → List Price
closes units = map (λ n. record { 0 = pos n }) units
