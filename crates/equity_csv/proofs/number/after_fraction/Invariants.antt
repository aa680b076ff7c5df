use Rattle.std.proofs.Common.{◌≡◌, drop}
use Rattle.lean_fixed.specs.Fields.{fields}
use Rattle.equity_csv.specs.Reading.{after_zeros}
use Rattle.equity_csv.proofs.number.after_fraction.Given as goal

abbrev pub invariant-loop-i : goal.invariant-loop-i
invariant-loop-i l = after_zeros (fields l.fraction) ≡ after_zeros (fields (drop l.i l.fraction))
