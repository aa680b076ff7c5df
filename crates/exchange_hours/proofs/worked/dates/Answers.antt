use Rattle.std.proofs.Common.{refl}
use Rattle.jiff_core.specs.Calendar.{days_from_civil, day_count, days_of_years, days_of_months}
use Rattle.exchange_hours.proofs.worked.dates.Goals as goal

pub returns-clause-short : goal.returns-clause-short
unfolding days_from_civil day_count days_of_years days_of_months
returns-clause-short c = refl

pub returns-clause-long : goal.returns-clause-long
unfolding days_from_civil day_count days_of_years days_of_months
returns-clause-long c = refl
