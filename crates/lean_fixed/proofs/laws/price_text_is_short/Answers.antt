use Rattle.std.proofs.Common.{rules}
use Rattle.lean_fixed.proofs.PrintedLemmas.{length-price_text}
use Rattle.lean_fixed.proofs.laws.price_text_is_short.Goals as goal

pub returns : goal.returns
returns c = length-price_text c.args.price.0 (search rules)
