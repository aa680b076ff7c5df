use Rattle.lean_fixed.proofs.MomentTexts.{moment_text-moment_of_text, moment_of_text-small}
use Rattle.lean_fixed.proofs.laws.moment_prints_back.Goals as goal

pub returns-clause-same : goal.returns-clause-same
returns-clause-same c = moment_text-moment_of_text

pub returns-clause-range : goal.returns-clause-range
returns-clause-range c = moment_of_text-small
