use Rattle.std.proofs.Common.{pos, sym, subst, arith, false}
use Rattle.std.proofs.lemmas.Int.{ints}
use Rattle.backtest_core.specs.Phases.{AreOf}
use Rattle.backtest_core.proofs.commands.Commands.new.Goals as goal

pub invariant_of-result : goal.invariant_of-result
invariant_of-result c = record {
  timed = grind (arith, ints);
  within = omega arith;
  sound = subst (AreOf (pos 0) false) (sym c.new.ensures.items) tt;
  few = omega arith;
  room = omega arith;
}
