use Rattle.lean_fixed.proofs.PrintsBack.{decimal-number_of_text}
use Rattle.lean_fixed.proofs.laws.number_prints_back.Goals as goal

pub returns : goal.returns
returns c = decimal-number_of_text
