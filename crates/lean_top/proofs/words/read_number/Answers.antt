-- Six digits say a number below a million.
use Rattle.std.proofs.Common.{arith}
use Rattle.lean_top.proofs.DemoLemmas.{six_digits}
use Rattle.lean_top.proofs.words.read_number.Goals as goal

pub returns-clause-few : goal.returns-clause-few
returns-clause-few c = six_digits c.args.text.now c.read_digits.result (omega (arith, c.if-text-gt-MOST_DIGITS.false)) c.read_digits.ensures
