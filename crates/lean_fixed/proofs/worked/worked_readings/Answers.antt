use Rattle.std.proofs.Common.{refl}
use Rattle.jiff_core.specs.Calendar.{days_from_civil, day_count, days_of_years, days_of_months}
use Rattle.lean_fixed.specs.ReadBack.{moment_of_text}
use Rattle.lean_fixed.proofs.worked.worked_readings.Goals as goal

pub returns-clause-opening : goal.returns-clause-opening
unfolding moment_of_text days_from_civil day_count days_of_years days_of_months
returns-clause-opening c = refl

pub returns-clause-end : goal.returns-clause-end
unfolding moment_of_text days_from_civil day_count days_of_years days_of_months
returns-clause-end c = refl

pub returns-clause-past : goal.returns-clause-past
unfolding moment_of_text days_from_civil day_count days_of_years days_of_months
returns-clause-past c = refl

pub returns-clause-no_minute : goal.returns-clause-no_minute
unfolding moment_of_text days_from_civil day_count days_of_years days_of_months
returns-clause-no_minute c = refl
