use Rattle.lean_fixed.proofs.PrintsBack.{units_text-amount_of_text}
use Rattle.lean_fixed.proofs.laws.amount_prints_back.Goals as goal

pub returns : goal.returns
returns c = units_text-amount_of_text
