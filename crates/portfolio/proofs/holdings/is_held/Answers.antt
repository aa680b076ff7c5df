use Rattle.std.proofs.Common.{◌∙◌}
use Rattle.portfolio.proofs.HoldingLemmas.{found_among}
use Rattle.portfolio.proofs.holdings.is_held.Goals as goal

pub returns : goal.returns
returns c = c.contains_key.ensures ∙ found_among c.args.symbol.now c.args.holdings.now.entries
