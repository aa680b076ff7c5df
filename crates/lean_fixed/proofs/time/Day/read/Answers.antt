use Rattle.std.proofs.Common.{ℤ, Option, Some, ap, ◌∙◌, rules}
use Rattle.lean_fixed.specs.declared.time.Day.{Day}
use Rattle.lean_fixed.proofs.SpelledDates.{day_of_digits-parts}
use Rattle.lean_fixed.proofs.CalendarWalk.{day_number-date}
use Rattle.lean_fixed.proofs.time.Day.read.Goals as goal

pub returns-in_err-date_of-clause-value : goal.returns-in_err-date_of-clause-value
returns-in_err-date_of-clause-value c =
    let parts = day_of_digits-parts c.args.bytes.now c.in_ok-year.year c.in_ok-month.month c.in_ok-day.day c.if-bytes-ne8.false (search rules) (search rules) (search rules) in
    let told = c.in_err-date_of.ensures in
    rw (parts, ← told.civil) c.from_residual-in_err-date_of.ensures

pub returns-clause-value : goal.returns-clause-value
returns-clause-value c =
    let parts = day_of_digits-parts c.args.bytes.now c.in_ok-year.year c.in_ok-month.month c.in_ok-day.day c.if-bytes-ne8.false (search rules) (search rules) (search rules) in
    let told = c.in_ok-date_of.ensures in
    let date = c.in_ok-date_of.field-0 in
    let made : ℤ → Option Day = λ z. Some (record { 0 = z }) in
    let number = c.day_of.ensures in
    rw (parts, ← told.civil) (ap made (number.value ∙ day_number-date date c.in_ok-year.year c.in_ok-month.month c.in_ok-day.day told.parts (rw number.value at number.range.0)))
