use Rattle.std.proofs.Common.{◌∙◌}
use Rattle.portfolio.proofs.portfolio.Portfolio.mark.Goals as goal

pub returns-clause-stands : goal.returns-clause-stands
returns-clause-stands c = c.mark_held-marked.ensures.stands (c.mark_held-marked.ensures.there ∙ c.requires.held)
