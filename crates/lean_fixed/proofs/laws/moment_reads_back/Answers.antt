use Rattle.lean_fixed.proofs.PrintedLemmas.{length-moment_text}
use Rattle.lean_fixed.proofs.MomentTexts.{moment_of_text-moment_text}
use Rattle.lean_fixed.proofs.laws.moment_reads_back.Goals as goal

pub returns-clause-fourteen : goal.returns-clause-fourteen
returns-clause-fourteen c = length-moment_text

pub returns-clause-same : goal.returns-clause-same
returns-clause-same c = moment_of_text-moment_text
