use Rattle.std.proofs.Common.{rules, FitsSigned, to_z-of_z}
use Rattle.std.specs.Int.{w128}
use Rattle.lean_fixed.proofs.WrittenLemmas.{written-money}
use Rattle.lean_fixed.proofs.writing.put_money.Goals as goal

pub returns-clause-written : goal.returns-clause-written
returns-clause-written c =
    let fits : FitsSigned w128 c.args.money.0 = search rules in
    let units = rw (to_z-of_z fits) at c.unsigned_abs-units.ensures.value in
    let sign = rw (c.is_negative.ensures, to_z-of_z fits) at c.put_sign-first.ensures.written in
    written-money c.args.money.0 c.unsigned_abs-units.result _ _ _ _ _ _ _ _ units sign c.put_wide-point.ensures.written c.put_places.ensures.written
