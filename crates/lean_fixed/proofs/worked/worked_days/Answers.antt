use Rattle.std.proofs.Common.{refl}
use Rattle.jiff_core.specs.Calendar.{days_from_civil, day_count, days_of_years, days_of_months}
use Rattle.lean_fixed.proofs.worked.worked_days.Goals as goal

pub returns-clause-monday : goal.returns-clause-monday
unfolding days_from_civil day_count days_of_years days_of_months
returns-clause-monday c = refl

pub returns-clause-last : goal.returns-clause-last
unfolding days_from_civil day_count days_of_years days_of_months
returns-clause-last c = refl

pub returns-clause-leap : goal.returns-clause-leap
unfolding days_from_civil day_count days_of_years days_of_months
returns-clause-leap c = refl
