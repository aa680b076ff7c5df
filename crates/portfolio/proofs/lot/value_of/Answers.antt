use Rattle.std.proofs.Common.{arith, ◌≤◌, ◌*ℤ◌}
use Rattle.std.specs.Prelude.{unsigned_abs}
use Rattle.std.proofs.lemmas.Int.{ints, to_z-of_z}
use Rattle.lean_fixed.specs.Ranges.{most_quantity, most_fill_price}
use Rattle.portfolio.proofs.Numbers.{abs_le, at_most, abs_mul_le}
use Rattle.portfolio.specs.LotRanges.{most_value}
use Rattle.portfolio.proofs.lot.value_of.Goals as goal

small : (c : goal.Start) → unsigned_abs (c.args.quantity *ℤ c.args.price) ≤ most_value
small c =
    abs_mul_le most_quantity most_fill_price c.args.quantity c.args.price (abs_le most_quantity c.args.quantity c.requires.quantity)
    (abs_le most_fill_price c.args.price (omega (arith, ints), omega (arith, ints)))

pub returns-clause-within : goal.returns-clause-within
returns-clause-within c = grind (arith, to_z-of_z, at_most most_value (c.args.quantity *ℤ c.args.price) (small c))
