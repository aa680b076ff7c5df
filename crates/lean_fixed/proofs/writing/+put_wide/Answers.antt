use Rattle.std.proofs.Common.{arith}
use Rattle.lean_fixed.proofs.PrintedLemmas.{length-dollars, length-dollars_step}
use Rattle.lean_fixed.proofs.WrittenLemmas.{written-digit}
use Rattle.lean_fixed.proofs.writing.+put_wide.Goals as goal

pub bounds-buffer-last : goal.bounds-buffer-last
bounds-buffer-last _ c =
    omega (
      arith,
      c.requires.room,
      c.put_wide-last.ensures.written.end,
      c.put_wide-last.ensures.written.size,
      length-dollars c.args.dollars c.requires.small,
      length-dollars_step c.args.dollars (omega arith) (omega (arith, c.requires.small)),
    )

pub returns-clause-written : goal.returns-clause-written
returns-clause-written _ c =
    written-digit c.args.dollars c.args.buffer.now c.put_wide-last.new.buffer c.args.place c.put_wide-last.result (omega arith) (omega (arith, c.requires.small))
    (omega (
      arith,
      c.requires.room,
      c.put_wide-last.ensures.written.end,
      c.put_wide-last.ensures.written.size,
      length-dollars c.args.dollars c.requires.small,
      length-dollars_step c.args.dollars (omega arith) (omega (arith, c.requires.small)),
    ))
    c.put_wide-last.ensures.written

pub returns-clause-most : goal.returns-clause-most
returns-clause-most _ c =
    omega (
      arith,
      c.put_wide-last.ensures.written.end,
      length-dollars c.args.dollars c.requires.small,
      length-dollars_step c.args.dollars (omega arith) (omega (arith, c.requires.small)),
    )
