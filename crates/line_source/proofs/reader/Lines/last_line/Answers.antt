use Rattle.std.proofs.Common.{◌<◌, length, arith}
use Rattle.line_source.specs.Reader.{ahead_of}
use Rattle.line_source.proofs.RawLemmas.{raw_lines-last}
use Rattle.line_source.proofs.BufferLemmas.{length-ahead}
use Rattle.line_source.proofs.reader.Lines.last_line.Goals as goal

pub returns-clause-gives : goal.returns-clause-gives
returns-clause-gives g c =
    let all = length-ahead c.args.self.now.buffer c.args.self.now.from c.args.self.now.to (omega arith) in
    let some : 0 < length (ahead_of c.args.self.now) = omega (arith, all, c.if-self.false) in
    rw (c.take_ahead.ensures.text, c.take_ahead.ensures.ahead) (raw_lines-last (ahead_of c.args.self.now) some c.requires)
