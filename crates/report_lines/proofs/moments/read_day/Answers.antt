use Rattle.std.proofs.Common.{◌≡◌, Some, None, arith, ap, ◌∙◌, to_z, of_z, w32}
use Rattle.std.specs.Prelude.{unsigned_abs}
use Rattle.std.proofs.lemmas.Int.{ints}
use Rattle.lean_fixed.specs.Calendar.{day_of_digits}
use Rattle.report_lines.proofs.Readings.{read_number}
use Rattle.report_lines.proofs.moments.read_day.Goals as goal

pub returns-in-None-clause-value : goal.returns-in-None-clause-value
returns-in-None-clause-value c = read_number (day_of_digits c.args.text.now) None c.in-None.ensures.value

pub returns-in-Some-clause-value : goal.returns-in-Some-clause-value
returns-in-Some-clause-value c =
    let k : to_z w32 (of_z w32 c.in-Some.day.0) ≡ c.in-Some.day.0 = omega (arith, ints, c.in-Some.ensures.range.0, c.in-Some.ensures.range.1) in
    let e : c.unsigned_abs.result ≡ unsigned_abs c.in-Some.day.0 = cc in
    ap Some e ∙ read_number (day_of_digits c.args.text.now) (Some c.in-Some.day) c.in-Some.ensures.value
