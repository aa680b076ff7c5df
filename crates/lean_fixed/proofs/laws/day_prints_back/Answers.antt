use Rattle.lean_fixed.proofs.RoundTrips.{day_text-day_of_digits, day_of_digits-last}
use Rattle.lean_fixed.proofs.laws.day_prints_back.Goals as goal

pub returns-clause-same : goal.returns-clause-same
returns-clause-same c = day_text-day_of_digits

pub returns-clause-range : goal.returns-clause-range
returns-clause-range c = day_of_digits-last
