use Rattle.std.proofs.Common.{◌≡◌, length, arith, inl, inr}
use Rattle.line_source.specs.Reader.{ahead_of}
use Rattle.line_source.proofs.RawLemmas.{full-long, full-line}
use Rattle.line_source.proofs.BufferLemmas.{length-ahead}
use Rattle.line_source.proofs.reader.Lines.full_line.Goals as goal
use Rattle.line_source.proofs.reader.Lines.full_line.Goals.{else-n-gt0-via-then-n-gt0+else-next-ne10, else-n-gt0-via-else-n-gt0}

pub returns-then-next-ne10-clause-gives : goal.returns-then-next-ne10-clause-gives
returns-then-next-ne10-clause-gives g c = λ f e.
    let one : length c.read.new.into ≡ 1 = omega arith in
    let all = length-ahead c.args.self.now.buffer c.args.self.now.from c.args.self.now.to (omega arith) in
    let full : length (ahead_of c.args.self.now) ≡ 256 = omega (arith, all, c.requires.front, c.requires.full) in
    full-long (ahead_of c.args.self.now) _ _ c.read.new.into c.in-Ok.n full c.requires.whole
    (c.in-Ok.ensures.told f e) c.in-Ok.ensures.within one c.if-n-gt0.true c.if-next-ne10.true

pub returns-else-n-gt0-clause-gives : goal.returns-else-n-gt0-clause-gives
returns-else-n-gt0-clause-gives g c = λ f e.
    let one : length c.read.new.into ≡ 1 = omega arith in
    let all = length-ahead c.args.self.now.buffer c.args.self.now.from c.args.self.now.to (omega arith) in
    let full : length (ahead_of c.args.self.now) ≡ 256 = omega (arith, all, c.requires.front, c.requires.full) in
    rw (c.take_ahead.ensures.text, c.take_ahead.ensures.ahead, c.take_ahead.ensures.hand)
    (full-line (ahead_of c.args.self.now) _ _ c.read.new.into c.in-Ok.n full c.requires.whole
    (c.in-Ok.ensures.told f e) c.in-Ok.ensures.within one
    (elim c.else-n-gt0.branch [
      | else-n-gt0-via-then-n-gt0+else-next-ne10 w ↦ inl (w.if-n-gt0.true, w.if-next-ne10.false)
      | else-n-gt0-via-else-n-gt0 w ↦ inr w.if-n-gt0.false
    ]))
