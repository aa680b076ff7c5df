use Rattle.std.proofs.Common.{◌∙◌, arith, rules, FitsSigned, w32, to_z-of_z}
use Rattle.std.specs.Int.{w8}
use Rattle.jiff_core.proofs.SignedLemmas.{signed_arith}
use Rattle.lean_fixed.proofs.CalendarWalk.{weekday-monday}
use Rattle.lean_fixed.proofs.time.Day.weekday.Goals as goal

pub returns : goal.returns
returns c =
    let offset = c.to_sunday_zero_offset in
    let small : FitsSigned w8 offset.result = omega (arith, signed_arith, offset.ensures.bound) in
    let fits : FitsSigned w32 c.args.self.0 = search rules in
    let day = rw (to_z-of_z fits) at c.unsigned_abs.ensures.value in
    let number = rw day at c.date_at.ensures.number in
    record {
      value = rw (to_z-of_z small, offset.ensures.value) at c.unsigned_abs-2.ensures.value ∙ weekday-monday _ _ _ number c.weekday.ensures;
    }
