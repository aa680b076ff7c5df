use Rattle.std.proofs.Common.{arith, rules, FitsSigned, w64, to_z-of_z}
use Rattle.lean_fixed.proofs.PrintedLemmas.{length-price_dollars}
use Rattle.lean_fixed.proofs.WrittenLemmas.{written-money}
use Rattle.lean_fixed.proofs.writing.put_price.Goals as goal

pub put_places-requires : goal.put_places-requires
put_places-requires c =
    let fits : FitsSigned w64 c.args.price.0 = search rules in
    let units = rw (to_z-of_z fits) at c.unsigned_abs-units.ensures.value in
    omega (
      arith,
      c.requires.room,
      c.put_sign-first.ensures.most,
      c.put_sign-first.ensures.written.size,
      c.put_number-point.ensures.written.end,
      c.put_number-point.ensures.written.size,
      length-price_dollars c.args.price.0 c.unsigned_abs-units.result fits units,
    )

pub returns-clause-written : goal.returns-clause-written
returns-clause-written c =
    let fits : FitsSigned w64 c.args.price.0 = search rules in
    let units = rw (to_z-of_z fits) at c.unsigned_abs-units.ensures.value in
    let sign = rw (c.is_negative.ensures, to_z-of_z fits) at c.put_sign-first.ensures.written in
    written-money c.args.price.0 c.unsigned_abs-units.result _ _ _ _ _ _ _ _ units sign c.put_number-point.ensures.written c.put_places.ensures.written

pub returns-clause-most : goal.returns-clause-most
returns-clause-most c =
    let fits : FitsSigned w64 c.args.price.0 = search rules in
    let units = rw (to_z-of_z fits) at c.unsigned_abs-units.ensures.value in
    omega (
      arith,
      c.put_sign-first.ensures.most,
      c.put_number-point.ensures.written.end,
      c.put_places.ensures.written.end,
      length-price_dollars c.args.price.0 c.unsigned_abs-units.result fits units,
    )
