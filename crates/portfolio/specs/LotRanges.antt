-- How large the numbers of one symbol's fills become. These ranges are wider than any million fills reach.
use Rattle.std.specs.Prelude.{ℕ}
use Rattle.lean_fixed.specs.Ranges.{IsAtMost, IsPosition}
use Rattle.portfolio.specs.declared.lot.Lot.{Lot}

-- the greatest value of a fill: every share that one order may have, at the greatest price
abbrev pub most_value : ℕ
most_value = 10001000000000000000

-- more than a million fills can cost
abbrev pub most_cost : ℕ
most_cost = 100000000000000000000000000

-- and what is left between the two steps of a fill through zero
abbrev pub most_between : ℕ
most_between = 300000000000000000000000000

pub record IsBounded (lot : Lot) : Type 0 where
  pub position : IsPosition lot.position
  pub cost : IsAtMost most_cost lot.cost
  pub profit : IsAtMost most_cost lot.profit
