use Rattle.std.proofs.Common.{◌≡◌, ◌<◌, ◌^◌, drop}
use Rattle.lean_fixed.specs.Digits.{value_from}
use Rattle.rule_lang.proofs.scan.value.Given as goal

abbrev pub invariant-loop-digit : goal.invariant-loop-digit
invariant-loop-digit l = record {
  small : l.value < 10 ^ l.digit-index;
  rest : value_from 0 l.digits ≡ value_from l.value (drop l.digit-index l.digits);
}
