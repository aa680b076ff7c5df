use Rattle.std.proofs.Common.{ap, ◌∙◌}
use Rattle.std.specs.Prelude.{is_some}
use Rattle.portfolio.proofs.HoldingLemmas.{found_among}
use Rattle.portfolio.proofs.holdings.set_price.Goals as goal

pub returns-in-Some-clause-there : goal.returns-in-Some-clause-there
returns-in-Some-clause-there c = ap is_some c.in-Some.ensures.value ∙ found_among c.args.symbol.now c.args.holdings.now.entries

pub returns-in-None-clause-there : goal.returns-in-None-clause-there
returns-in-None-clause-there c = ap is_some c.in-None.ensures.value ∙ found_among c.args.symbol.now c.args.holdings.now.entries
