use Rattle.lean_fixed.proofs.RoundTrips.{digits-decimal, plain_number-decimal}
use Rattle.lean_fixed.proofs.PrintsBack.{number_of_text-decimal}
use Rattle.lean_fixed.proofs.laws.number_reads_back.Goals as goal

pub returns-clause-digits : goal.returns-clause-digits
returns-clause-digits c = digits-decimal

pub returns-clause-field : goal.returns-clause-field
returns-clause-field c = plain_number-decimal

pub returns-clause-plain : goal.returns-clause-plain
returns-clause-plain c = number_of_text-decimal
