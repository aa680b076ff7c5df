use Rattle.std.proofs.Common.{[], arith}
use Rattle.std.proofs.lemmas.Int.{ints}
use Rattle.portfolio.proofs.StandsLemmas.{stands-new}
use Rattle.portfolio.proofs.portfolio.Portfolio.new.Goals as goal

pub invariant_of-result : goal.invariant_of-result
invariant_of-result c = record {
  start = c.args.cash.0;
  fills = [];
  marks = [];
  stands =
      stands-new c.starting.result c.new.result.entries c.args.cash.0 c.requires c.new.ensures.empty (omega (arith, ints, c.starting.ensures.cash)) c.starting.ensures.fees c.starting.ensures.realised
      c.starting.ensures.value c.starting.ensures.gross c.starting.ensures.fills;
}
