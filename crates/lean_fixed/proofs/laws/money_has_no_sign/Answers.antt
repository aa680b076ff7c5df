use Rattle.lean_fixed.proofs.PrintedLemmas.{money_text-pos}
use Rattle.lean_fixed.proofs.laws.money_has_no_sign.Goals as goal

pub returns : goal.returns
returns c = money_text-pos
