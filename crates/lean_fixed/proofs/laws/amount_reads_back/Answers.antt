use Rattle.lean_fixed.proofs.RoundTrips.{amount-units_text}
use Rattle.lean_fixed.proofs.PrintsBack.{amount_of_text-units_text}
use Rattle.lean_fixed.proofs.laws.amount_reads_back.Goals as goal

pub returns-clause-amount : goal.returns-clause-amount
returns-clause-amount c = amount-units_text

pub returns-clause-plain : goal.returns-clause-plain
returns-clause-plain c = amount_of_text-units_text
