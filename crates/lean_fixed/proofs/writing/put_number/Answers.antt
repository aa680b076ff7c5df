use Rattle.std.proofs.Common.{arith}
use Rattle.std.specs.Fmt.{decimal}
use Rattle.lean_fixed.proofs.WrittenLemmas.{written-from_end}
use Rattle.lean_fixed.proofs.writing.put_number.Goals as goal

pub returns-clause-written : goal.returns-clause-written
returns-clause-written c =
    written-from_end (decimal c.args.number) c.args.buffer.now c.write_digits.new.buf c.args.place c.write_digits.result _
    (omega (arith, c.digit_count.ensures.value)) (omega (arith, c.requires.room, c.digit_count.ensures.most)) c.write_digits.auto.buf
    c.write_digits.ensures.start c.write_digits.ensures.before c.write_digits.ensures.written
