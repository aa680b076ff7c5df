use Rattle.std.proofs.Common.{◌≡◌, ◌^◌, ◌≤◌, drop}
use Rattle.lean_fixed.proofs.DigitsLemmas.{digits_behind}
use Rattle.lean_fixed.proofs.digits.read_digits.Given as goal

abbrev pub invariant-loop-byte : goal.invariant-loop-byte
invariant-loop-byte l = record {
  small : l.number ≤ 10 ^ 18;
  rest : digits_behind 0 l.bytes ≡ digits_behind l.number (drop l.byte-index l.bytes);
}
