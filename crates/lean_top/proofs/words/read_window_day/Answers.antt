-- A day that was read, held against the first and the last of a window.
use Rattle.lean_fixed.specs.Calendar.{day_of_digits}
use Rattle.lean_top.proofs.WindowLemmas.{no_day, early_day, late_day, a_window_day}
use Rattle.lean_top.proofs.words.read_window_day.Goals as goal

pub returns-in_default-clause-value : goal.returns-in_default-clause-value
returns-in_default-clause-value c = no_day (day_of_digits c.args.word.now) c.in_default.ensures.value

pub returns-then-number-lt1-clause-value : goal.returns-then-number-lt1-clause-value
returns-then-number-lt1-clause-value c =
    early_day (day_of_digits c.args.word.now) c.in-Some.day c.number_of-number.result c.in-Some.ensures.value c.number_of-number.ensures c.if-number-lt1.true

pub returns-then-number-clause-value : goal.returns-then-number-clause-value
returns-then-number-clause-value c =
    late_day (day_of_digits c.args.word.now) c.in-Some.day c.number_of-number.result c.in-Some.ensures.value c.number_of-number.ensures c.if-number.true

pub returns-clause-value : goal.returns-clause-value
returns-clause-value c =
    a_window_day (day_of_digits c.args.word.now) c.in-Some.day c.number_of-number.result c.in-Some.ensures.value c.number_of-number.ensures c.if-number-lt1.false c.if-number.false
