use Rattle.std.proofs.Common.{arith, FitsSigned, w32, to_z-of_z}
use Rattle.jiff_core.proofs.SignedLemmas.{signed_arith}
use Rattle.jiff_core.specs.Calendar.{IsCivilDate}
use Rattle.lean_fixed.proofs.CalendarWalk.{not_before, not_after}
use Rattle.lean_fixed.proofs.time.day_of.Goals as goal

pub returns-clause-range : goal.returns-clause-range
returns-clause-range c =
    let bound = c.to_unix_epoch_day.ensures.bound in
    let fits : FitsSigned w32 c.to_unix_epoch_day.result = omega (arith, signed_arith) in
    let date = c.args.date in
    let civil : IsCivilDate date.year date.month date.day = (date.year_in, date.month_in, date.day_in) in
    rw (to_z-of_z fits, c.to_unix_epoch_day.ensures.value)
    (not_before date.year date.month date.day civil c.requires.0, not_after date.year date.month date.day civil c.requires.1)
