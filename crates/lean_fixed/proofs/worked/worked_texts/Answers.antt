use Rattle.std.proofs.Common.{refl}
use Rattle.std.specs.Fmt.{digits}
use Rattle.lean_fixed.specs.Calendar.{civil_of, carried_through}
use Rattle.lean_fixed.specs.Printed.{units_text, money_text, day_text, moment_text}
use Rattle.lean_fixed.proofs.worked.worked_texts.Goals as goal

pub returns-clause-first : goal.returns-clause-first
unfolding day_text civil_of carried_through
returns-clause-first c = refl

pub returns-clause-leap : goal.returns-clause-leap
unfolding day_text civil_of carried_through
returns-clause-leap c = refl

pub returns-clause-end : goal.returns-clause-end
unfolding moment_text day_text civil_of carried_through
returns-clause-end c = refl

pub returns-clause-opening : goal.returns-clause-opening
unfolding moment_text day_text civil_of carried_through
returns-clause-opening c = refl

pub returns-clause-price : goal.returns-clause-price
unfolding money_text units_text digits
returns-clause-price c = refl

pub returns-clause-loss : goal.returns-clause-loss
unfolding money_text units_text digits
returns-clause-loss c = refl
