use Rattle.std.proofs.Common.{sym, rules}
use Rattle.lean_fixed.proofs.DigitsLemmas.{digits-large}
use Rattle.lean_fixed.proofs.digits.read_digits.Goals as goal

pub returns-then-number-gt-MOST : goal.returns-then-number-gt-MOST
returns-then-number-gt-MOST c =
    sym (digits-large c.args.bytes.now c.loop-byte.number c.loop-byte.byte-index c.loop-byte.invariant.rest c.loop-byte-test.true (search rules) c.if-number-gt-MOST.true)
