use Rattle.std.proofs.Common.{◌+◌, ◌*◌, ◌^◌, ◌<◌, length, arith}
use Rattle.std.specs.Int.{w128}
use Rattle.std.proofs.Math.Facts.{to_z_pos}
use Rattle.std.proofs.lemmas.Bool.Decides.{nat_tests}
use Rattle.rule_lang.proofs.Numbers.{units-small}
use Rattle.rule_lang.proofs.scan.decimal.Goals as goal

pub returns : goal.returns
returns c =
    let small = units-small c.value.result c.value-2.result (length c.args.places.now) c.value.type_inv c.value-2.type_inv in
    let fits : c.value.result * 10000 + c.value-2.result * c.pow.result < 2 ^ 127 = rw c.pow.ensures small in
    rw (to_z_pos w128 fits) (grind (arith, nat_tests))
