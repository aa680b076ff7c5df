use Rattle.std.proofs.Common.{sym}
use Rattle.itoa.proofs.Decimal.{length_one}
use Rattle.lean_fixed.proofs.WrittenLemmas.{count_of_two, count_of_three, count_of_four}
use Rattle.lean_fixed.proofs.writing.short_count.Goals as goal

pub returns-then-number-lt10 : goal.returns-then-number-lt10
returns-then-number-lt10 c = sym (length_one c.args.number c.if-number-lt10.true)

pub returns-then-number-lt100 : goal.returns-then-number-lt100
returns-then-number-lt100 c = sym (count_of_two c.args.number c.if-number-lt10.false c.if-number-lt100.true)

pub returns-then-number-lt1000 : goal.returns-then-number-lt1000
returns-then-number-lt1000 c = sym (count_of_three c.args.number c.if-number-lt100.false c.if-number-lt1000.true)

pub returns : goal.returns
returns c = sym (count_of_four c.args.number c.if-number-lt1000.false c.requires)
