use Rattle.std.proofs.Common.{arith}
use Rattle.std.proofs.lemmas.Int.{ints}
use Rattle.consolidators.proofs.consolidator.Consolidator.takes.Goals as goal

pub returns-then-self-bar-clause-yes : goal.returns-then-self-bar-clause-yes
returns-then-self-bar-clause-yes c = λ fits. (c.is_pushed.ensures.yes fits, omega (arith, ints))
