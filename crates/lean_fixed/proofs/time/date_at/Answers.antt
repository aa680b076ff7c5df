use Rattle.std.proofs.Common.{arith, w64, ◌∙◌}
use Rattle.std.proofs.lemmas.Int.{to_z_pos}
use Rattle.lean_fixed.proofs.CalendarWalk.{civil_of-date}
use Rattle.lean_fixed.proofs.time.date_at.Goals as goal

pub returns-clause-year : goal.returns-clause-year
returns-clause-year c =
    (civil_of-date c.args.day c.in-Ok.date (omega arith) (c.in-Ok.ensures.value ∙ to_z_pos w64 c.args.day (omega arith))).0

pub returns-clause-month : goal.returns-clause-month
returns-clause-month c =
    (civil_of-date c.args.day c.in-Ok.date (omega arith) (c.in-Ok.ensures.value ∙ to_z_pos w64 c.args.day (omega arith))).1

pub returns-clause-day : goal.returns-clause-day
returns-clause-day c =
    (civil_of-date c.args.day c.in-Ok.date (omega arith) (c.in-Ok.ensures.value ∙ to_z_pos w64 c.args.day (omega arith))).2
