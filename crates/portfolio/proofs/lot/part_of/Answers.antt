use Rattle.std.proofs.Common.{arith, ◌≤◌, ◌<◌, ◌^◌, ◌∙◌, pos, ◌*ℤ◌}
use Rattle.std.specs.Prelude.{unsigned_abs, int_div}
use Rattle.std.proofs.lemmas.Int.{fits_signed_from_abs}
use Rattle.std.proofs.lemmas.Bool.Decides.{nat_tests}
use mir.Syntax.{w128}
use Rattle.portfolio.proofs.Numbers.{abs_le, at_most, part_computed, part_inner, part_le}
use Rattle.portfolio.specs.LotRanges.{most_cost}
use Rattle.portfolio.proofs.lot.part_of.Goals as goal

fits : (c : goal.Else-shares-held) → unsigned_abs c.args.cost < 2 ^ 127
fits c = omega (arith, abs_le most_cost c.args.cost c.requires.cost)

small : (c : goal.Else-shares-held) → unsigned_abs (int_div c.args.cost (pos c.args.held) *ℤ pos c.args.shares) ≤ most_cost
small c = omega (arith, part_le c.args.cost c.args.held c.args.shares c.requires.shares, abs_le most_cost c.args.cost c.requires.cost)

pub overflow_mul-result : goal.overflow_mul-result
overflow_mul-result c =
    rw (part_inner c.args.cost c.args.held c.args.shares (fits c) (omega arith) (omega arith))
    (fits_signed_from_abs w128 (int_div c.args.cost (pos c.args.held) *ℤ pos c.args.shares) (omega (arith, small c)))

pub returns-clause-value : goal.returns-clause-value
returns-clause-value c = part_computed c.args.cost c.args.held c.args.shares (fits c) (omega arith) (omega arith) c.requires.shares ∙ grind (arith, nat_tests)

pub returns-clause-within : goal.returns-clause-within
returns-clause-within c =
    rw (part_computed c.args.cost c.args.held c.args.shares (fits c) (omega arith) (omega arith) c.requires.shares)
    (at_most most_cost (int_div c.args.cost (pos c.args.held) *ℤ pos c.args.shares) (small c))
