use Rattle.std.proofs.Common.{refl}
use Rattle.std.specs.Str.{is_utf8, chars}
use Rattle.std.specs.Char.{encode_utf8}
use Rattle.serde_json.proofs.OnLiterals.{serde_json_on_literals}
use Rattle.jiff_core.specs.Calendar.{days_from_civil, day_count, days_of_years, days_of_months}
use Rattle.exchange_hours.specs.HoursFile.{week}
use Rattle.exchange_hours.proofs.worked.files.Goals as goal

pub returns-clause-no_json : goal.returns-clause-no_json
unfolding is_utf8 chars encode_utf8 serde_json_on_literals
returns-clause-no_json c = refl

pub returns-clause-no_entry : goal.returns-clause-no_entry
unfolding is_utf8 chars encode_utf8 serde_json_on_literals
returns-clause-no_entry c = refl

pub returns-clause-monday : goal.returns-clause-monday
unfolding is_utf8 chars encode_utf8 serde_json_on_literals week days_from_civil day_count days_of_years days_of_months
returns-clause-monday c = refl
