use Rattle.std.proofs.Common.{arith}
use Rattle.rule_lang.proofs.Runs.{value-next}
use Rattle.rule_lang.proofs.scan.value.Goals as goal

pub overflow_mul-value : goal.overflow_mul-value
overflow_mul-value c =
    omega (arith, (value-next c.args.digits.now c.loop-digit.value c.loop-digit.digit-index c.requires.digits c.requires.short c.loop-digit-test.true c.loop-digit.invariant.small).0)

pub overflow_add-value : goal.overflow_add-value
overflow_add-value c =
    omega (arith, (value-next c.args.digits.now c.loop-digit.value c.loop-digit.digit-index c.requires.digits c.requires.short c.loop-digit-test.true c.loop-digit.invariant.small).2)
