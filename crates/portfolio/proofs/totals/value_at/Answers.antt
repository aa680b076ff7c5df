use Rattle.std.proofs.Common.{arith, ◌≤◌, ◌*ℤ◌}
use Rattle.std.specs.Prelude.{unsigned_abs}
use Rattle.std.proofs.lemmas.Int.{to_z-of_z}
use Rattle.lean_fixed.specs.Ranges.{most_position, most_price}
use Rattle.portfolio.proofs.Numbers.{abs_le, at_most, abs_mul_le}
use Rattle.portfolio.specs.LotRanges.{most_cost}
use Rattle.portfolio.proofs.totals.value_at.Goals as goal

small : (c : goal.Start) → unsigned_abs (c.args.position *ℤ c.args.price) ≤ most_cost
small c =
    omega (
      arith,
      abs_mul_le most_position most_price c.args.position c.args.price (abs_le most_position c.args.position c.requires.position)
          (abs_le most_price c.args.price c.requires.price),
    )

pub returns-clause-range : goal.returns-clause-range
returns-clause-range c = grind (arith, to_z-of_z, at_most most_cost (c.args.position *ℤ c.args.price) (small c))
