use Rattle.lean_fixed.proofs.PrintedLemmas.{length-day_text}
use Rattle.lean_fixed.proofs.RoundTrips.{day_text-digits, day_of_digits-day_text}
use Rattle.lean_fixed.proofs.laws.day_reads_back.Goals as goal

pub returns-clause-eight : goal.returns-clause-eight
returns-clause-eight c = length-day_text

pub returns-clause-digits : goal.returns-clause-digits
returns-clause-digits c = day_text-digits

pub returns-clause-same : goal.returns-clause-same
returns-clause-same c = day_of_digits-day_text
