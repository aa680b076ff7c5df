use Rattle.std.proofs.Common.{sym, arith}
use Rattle.lean_fixed.proofs.DigitsLemmas.{no_digits-short, digits-tell, value_of-lt}
use Rattle.lean_fixed.proofs.AmountLemmas.{places-scaled}
use Rattle.lean_fixed.proofs.amount.read_places.Goals as goal

pub returns-in_err-value-clause-value : goal.returns-in_err-value-clause-value
returns-in_err-value-clause-value c =
    rw (no_digits-short c.args.places.now (omega arith) (sym c.in_err-value.ensures)) c.from_residual.ensures

pub returns-clause-bound : goal.returns-clause-bound
returns-clause-bound c =
    let told = digits-tell c.args.places.now c.in_ok-value.field-0 (sym c.in_ok-value.ensures) in
    let small = rw told.1 at (value_of-lt c.args.places.now told.0) in
    rw c.pow.ensures (places-scaled c.in_ok-value.field-0 _ (omega arith) small)
