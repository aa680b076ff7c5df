use Rattle.std.proofs.Common.{rules}
use Rattle.lean_fixed.proofs.PrintedLemmas.{length-any_money_text}
use Rattle.lean_fixed.proofs.laws.money_text_is_short.Goals as goal

pub returns : goal.returns
returns c = length-any_money_text c.args.money.0 (search rules)
