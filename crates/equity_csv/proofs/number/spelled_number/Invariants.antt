use Rattle.std.proofs.Common.{◌≡◌, ◌≤◌, drop}
use Rattle.lean_fixed.specs.Fields.{fields}
use Rattle.equity_csv.specs.Reading.{leading, number_up_to}
use Rattle.equity_csv.proofs.NumberLemmas.{leading_on}
use Rattle.equity_csv.proofs.number.spelled_number.Given as goal

abbrev pub invariant-loop-i : goal.invariant-loop-i
invariant-loop-i l = record {
  within : l.number ≤ l.most;
  same : leading (number_up_to l.most) (fields l.text) ≡ leading_on l.most l.number (fields (drop l.i l.text));
}
