use Rattle.std.proofs.Common.{arith}
use Rattle.std.proofs.lemmas.Grind.{common_steps}
use Rattle.equity_csv.proofs.FieldLemmas.{after_zeros-drop}
use Rattle.equity_csv.proofs.number.after_fraction.Goals as goal

pub loop-i-preserved : goal.loop-i-preserved
loop-i-preserved c = grind (arith, common_steps, after_zeros-drop)
